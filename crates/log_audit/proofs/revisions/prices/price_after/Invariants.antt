use Rattle.std.proofs.Common.{◌≡◌, drop, map}
use Rattle.log_audit.specs.Changes.{change_seen}
use Rattle.log_audit.specs.Prices.{price_after}
use Rattle.log_audit.proofs.revisions.prices.price_after.Given as goal

-- the price so far, after the changes that are left
abbrev pub invariant-loop-change : goal.invariant-loop-change
invariant-loop-change l =
    price_after l.payer l.product l.then (map change_seen (drop l.change-index l.changes)) ≡ price_after l.payer l.product l.initial.then (map change_seen l.changes)
