use Rattle.std.proofs.Common.{◌≡◌, drop, map}
use Rattle.log_audit.specs.Changes.{change_seen}
use Rattle.log_audit.specs.Following.{had_after}
use Rattle.log_audit.specs.Caps.{cap_of}
use Rattle.log_audit.proofs.revisions.caps.cap_after.Given as goal

-- the cap so far, after the changes that are left
abbrev pub invariant-loop-change : goal.invariant-loop-change
invariant-loop-change l =
    had_after cap_of l.switch l.then (map change_seen (drop l.change-index l.changes)) ≡ had_after cap_of l.switch l.initial.then (map change_seen l.changes)
