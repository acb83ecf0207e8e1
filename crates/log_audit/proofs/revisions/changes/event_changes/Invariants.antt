use Rattle.std.proofs.Common.{◌≡◌, ◌+◌, ◌++◌, drop, map}
use Rattle.world_setup.specs.Seen.{event_seen}
use Rattle.log_audit.specs.Changes.{change_seen, event_changes}
use Rattle.log_audit.proofs.revisions.changes.event_changes.Given as goal

-- the changes so far, and then those among the events that are left
abbrev pub invariant-loop-passed : goal.invariant-loop-passed
invariant-loop-passed l =
    map change_seen l.changes.items ++ event_changes (l.passed + 1) (map event_seen (drop l.passed l.events)) ≡ event_changes 1 (map event_seen l.events)
