use Rattle.std.proofs.Common.{◌≡◌, ◌+◌, ◌-◌, ◌++◌}
use Rattle.node_log.specs.LogSeen.{logs_seen}
use Rattle.claimdump.specs.NodeLogs.{none_from}
use Rattle.claimdump.proofs.node_logs.none_of.Given as goal

-- the logs so far, and then those that are left
abbrev pub invariant-loop-place : goal.invariant-loop-place
invariant-loop-place l = logs_seen l.logs.items ++ none_from l.kind (l.place + 1) (l.count - l.place) ≡ none_from l.kind 1 l.count
