use Rattle.std.proofs.Common.{◌≡◌, drop}
use Rattle.world_setup.specs.Seen.{node_seen}
use Rattle.run_merge.specs.Naming.{calls_of}
use Rattle.node_log.specs.LogSeen.{logs_seen}
use Rattle.node_logged.proofs.judging.replaying.log_of.Given as goal

abbrev pub invariant-loop-log : goal.invariant-loop-log
invariant-loop-log l = calls_of (logs_seen (drop l.log-index l.logs)) (node_seen l.node) ≡ calls_of (logs_seen l.logs) (node_seen l.node)
