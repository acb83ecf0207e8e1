use Rattle.std.proofs.Common.{◌≡◌, ◌++◌, drop, map}
use Rattle.std.specs.List.{flat_map}
use Rattle.node_log.specs.LogSeen.{logs_seen}
use Rattle.log_audit.specs.Changes.{change_seen, log_changes}
use Rattle.log_audit.proofs.revisions.changes.log_changes.Given as goal

-- the changes so far, and then those of the logs that are left
abbrev pub invariant-loop-log : goal.invariant-loop-log
invariant-loop-log l =
    map change_seen l.changes.items ++ flat_map log_changes (logs_seen (drop l.log-index l.logs)) ≡ flat_map log_changes (logs_seen l.logs)
