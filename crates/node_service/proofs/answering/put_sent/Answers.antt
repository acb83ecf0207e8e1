use Rattle.std.proofs.Common.{◌++◌, List, ℕ, ap, sym, ◌∙◌}
use Rattle.world_setup.specs.Seen.{sent_seen}
use Rattle.node_service.specs.Answering.{sent_line, sent_lines}
use Rattle.node_service.proofs.Loops.{texts_are_done, flat_map-seen}
use Rattle.node_service.proofs.answering.put_sent.Goals as goal

pub returns : goal.returns
unfolding sent_lines
returns c =
    texts_are_done (λ s. sent_line (sent_seen s)) c.loop-one.out.items _ c.args.sent.now c.loop-one.one-index c.loop-one-test.false c.loop-one.invariant
    ∙ ap (λ (t : List ℕ). c.args.out.now.items ++ t) (sym (flat_map-seen sent_line sent_seen c.args.sent.now))
