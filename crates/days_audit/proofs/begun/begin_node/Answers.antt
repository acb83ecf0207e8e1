use Rattle.std.proofs.Common.{sym, ◌∙◌}
use Rattle.world_setup.specs.Seen.{node_seen}
use Rattle.node_log.specs.LogSeen.{logs_seen}
use Rattle.days_audit.specs.Begun.{begins_at}
use Rattle.days_audit.proofs.Begins.{absent_not_begun, no_log_begun}
use Rattle.days_audit.proofs.begun.begin_node.Goals as goal

pub returns-then-not-is_there : goal.returns-then-not-is_there
returns-then-not-is_there c = absent_not_begun c.args.settings.now c.args.rests.now (logs_seen c.args.logs.now) (node_seen c.args.node) (rw c.settings.ensures.kept at (sym c.is_there.ensures.value ∙ c.if-not-is_there.true))

pub returns-in-None : goal.returns-in-None
returns-in-None c = no_log_begun (begins_at c.args.settings.now c.args.rests.now) (logs_seen c.args.logs.now) (node_seen c.args.node) (rw c.in-None.is at c.place_of.ensures)
