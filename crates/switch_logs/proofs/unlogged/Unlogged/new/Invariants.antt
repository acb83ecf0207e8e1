use Rattle.std.specs.Arc.{arc_value}
use Rattle.node_log.specs.LogSeen.{logs_seen}
use Rattle.switch_logs.specs.MadeLogs.{Stand, unlogged}
use Rattle.switch_logs.proofs.unlogged.Unlogged.new.Given as goal

-- the switches so far that have no log
abbrev pub invariant-loop-place : goal.invariant-loop-place
invariant-loop-place l = Stand (arc_value l.shared) (unlogged (logs_seen l.fn.logs) l.place) l.switches.items
