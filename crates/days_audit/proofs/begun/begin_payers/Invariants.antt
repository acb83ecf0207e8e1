use Rattle.node_log.specs.LogSeen.{logs_seen}
use Rattle.days_audit.specs.Begun.{begins_at}
use Rattle.days_audit.specs.Lines.{ArePayers}
use Rattle.days_audit.proofs.begun.begin_payers.Given as goal

abbrev pub invariant-loop-passed : goal.invariant-loop-passed
invariant-loop-passed l = ArePayers (begins_at l.settings l.rests) (logs_seen l.logs) l.passed l.nodes.items
