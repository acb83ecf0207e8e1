use Rattle.std.proofs.Common.{◌≡◌, ℕ, take}
use Rattle.std.specs.Prelude.{Option}
use Rattle.std.specs.BTreeMap.{get}
use Rattle.claim_reports.specs.Totals.{key_cmp, total_at, AddUp}
use Rattle.claim_reports.proofs.Overflows.{Fit}
use Rattle.claim_reports.proofs.totals.totals_of.Given as goal

-- the sums of the payments so far
abbrev pub invariant-loop-payment : goal.invariant-loop-payment
invariant-loop-payment l = record {
  each : (key : Option ℕ) → get key_cmp l.totals key ≡ total_at l.by key (take l.payment-index l.paid);
  all : AddUp l.totals.entries (take l.payment-index l.paid);
  fits : Fit l.by (take l.payment-index l.paid);
}
