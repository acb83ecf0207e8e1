use Rattle.std.proofs.Common.{◌∙◌, sym}
use Rattle.node_log.specs.LogSeen.{log_seen}
use Rattle.log_audit.proofs.Ends.{left_whole}
use Rattle.log_audit.proofs.judging.standing.node_left.Goals as goal

pub returns-in-Ok : goal.returns-in-Ok
returns-in-Ok c =
    left_whole c.args.settings.now (log_seen c.args.log.now) c.in-Ok.node
    (rw (c.settings.ensures.kept, c.node.ensures) at (sym c.is_there.ensures.value ∙ c.if-not-is_there.false)) (rw c.in-Ok.is at c.in_ok-node.ensures)
