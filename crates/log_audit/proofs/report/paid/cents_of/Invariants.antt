use Rattle.std.proofs.Common.{◌≡◌, ◌+◌, ◌^◌, ◌<◌, drop}
use Rattle.log_audit.specs.Ledger.{in_cents, paid_total, is_chosen}
use Rattle.log_audit.proofs.report.paid.cents_of.Given as goal

-- the cents so far, and those of the payments that are left
abbrev pub invariant-loop-payment : goal.invariant-loop-payment
invariant-loop-payment l = record {
  all : in_cents (l.cents + paid_total (is_chosen l.of l.reversed) (drop l.payment-index l.paid)) ≡ in_cents (paid_total (is_chosen l.of l.reversed) l.paid);
  fits : l.cents < 2 ^ 64;
}
