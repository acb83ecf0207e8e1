use Rattle.std.proofs.Common.{◌≡◌, drop}
use Rattle.run_merge.specs.Naming.{all_distinct}
use Rattle.node_log.specs.LogSeen.{logs_seen}
use Rattle.run_merge.proofs.history.are_distinct.Given as goal

abbrev pub invariant-loop-place : goal.invariant-loop-place
invariant-loop-place l = all_distinct (logs_seen (drop l.place l.logs)) ≡ all_distinct (logs_seen l.logs)
