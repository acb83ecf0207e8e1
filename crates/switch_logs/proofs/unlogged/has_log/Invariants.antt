use Rattle.std.proofs.Common.{◌≡◌, drop}
use Rattle.world_setup.specs.Seen.{node_seen}
use Rattle.run_merge.specs.Naming.{has_log}
use Rattle.node_log.specs.LogSeen.{logs_seen}
use Rattle.switch_logs.proofs.unlogged.has_log.Given as goal

abbrev pub invariant-loop-log : goal.invariant-loop-log
invariant-loop-log l = has_log (node_seen l.node) (logs_seen (drop l.log-index l.logs)) ≡ has_log (node_seen l.node) (logs_seen l.logs)
