use Rattle.world_setup.specs.Seen.{node_seen}
use Rattle.node_log.specs.LogSeen.{logs_seen}
use Rattle.days_audit.proofs.Firsts.{NoneFound}
use Rattle.days_audit.proofs.naming.place_of.Given as goal

abbrev pub invariant-loop-place : goal.invariant-loop-place
invariant-loop-place l = NoneFound l.place (node_seen l.node) (logs_seen l.logs)
