use Rattle.std.proofs.Common.{◌≡◌, ◌+◌, ◌++◌, drop, map}
use Rattle.log_audit.specs.Changes.{change_seen, call_changes}
use Rattle.log_audit.proofs.revisions.changes.push_calls.Given as goal

-- the changes so far, and then those among the calls that are left
abbrev pub invariant-loop-passed : goal.invariant-loop-passed
invariant-loop-passed l =
    map change_seen l.changes.items ++ call_changes l.number (l.passed + 1) (drop l.passed l.records)
    ≡ map change_seen l.initial.changes.items ++ call_changes l.number 1 l.records
