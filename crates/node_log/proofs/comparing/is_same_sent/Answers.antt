use Rattle.std.proofs.Common.{arith}
use Rattle.world_setup.specs.Seen.{sent_seen}
use Rattle.node_log.proofs.Sents.{same_at}
use Rattle.node_log.proofs.comparing.is_same_sent.Goals as goal

pub returns-then-not-is_same : goal.returns-then-not-is_same
returns-then-not-is_same c =
    (λ h. absurd cc, λ e. c.if-not-is_same.ensures.1 (same_at sent_seen c.args.a.now c.args.b.now c.loop-place.place c.index-a-place.result c.index-b-place.result (omega arith) (omega arith) c.index-a-place.is c.index-b-place.is e))
