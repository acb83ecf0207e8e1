use Rattle.std.proofs.Common.{map, ap, ◌∙◌}
use Rattle.std.specs.Arc.{arc_value}
use Rattle.claim_model.specs.Logs.{NodeLog}
use Rattle.node_log.specs.LogSeen.{log_seen}
use Rattle.world_setup.specs.Seen.{call_seen, sent_seen}
use Rattle.node_logged.specs.Holding.{recorded}
use Rattle.node_logged.proofs.Replays.{stays_kept}
use Rattle.node_logged.proofs.held.Held.call.Goals as goal

pub invariant_of-self-2 : goal.invariant_of-self-2
invariant_of-self-2 c =
    let call = call_seen c.args.call in
    let sent = map sent_seen c.in_ok-sent.sent.items in
    stays_kept (arc_value c.self.inside.shared) c.self.inside.state c.step.new.self (log_seen c.self.inside.log) (log_seen c.record.new.self) call sent
    c.self.invariant
    (rw (c.routes.ensures, c.deref.ensures) at c.in_ok-sent.ensures.ok)
    (c.record.ensures ∙ ap (λ (log : NodeLog). recorded log call sent) c.reserve.ensures.same)
