use Rattle.std.proofs.Common.{◌≡◌, drop, map}
use Rattle.log_audit.specs.Changes.{change_seen}
use Rattle.log_audit.specs.Following.{had_after}
use Rattle.log_audit.specs.Terms.{terms_of}
use Rattle.log_audit.proofs.revisions.terms.terms_after.Given as goal

-- the terms so far, after the changes that are left
abbrev pub invariant-loop-change : goal.invariant-loop-change
invariant-loop-change l =
    had_after terms_of l.payer l.then (map change_seen (drop l.change-index l.changes)) ≡ had_after terms_of l.payer l.initial.then (map change_seen l.changes)
