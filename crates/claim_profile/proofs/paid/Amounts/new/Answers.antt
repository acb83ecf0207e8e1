use Rattle.std.proofs.Common.{◌≡◌, ◌≤◌, ℤ, nat_abs, w64, to_z, of_z, arith}
use Rattle.std.proofs.lemmas.Int.{ints, to_z-of_z, fits_signed_from_abs}
use Rattle.overpunch.specs.Amount.{IsAmount}
use Rattle.claim_profile.specs.Money.{largest}
use Rattle.claim_profile.proofs.paid.Amounts.new.Goals as goal

-- an amount's cents are what the cast makes of them
same : (z : ℤ) → IsAmount z → to_z w64 (of_z w64 z) ≡ z
same z h = to_z-of_z w64 z (fits_signed_from_abs w64 z (omega arith))

bounded : (z : ℤ) → IsAmount z → nat_abs (to_z w64 (of_z w64 z)) ≤ largest
bounded z h = rw (same z h) (omega (arith, ints))

pub invariant_of-result : goal.invariant_of-result
invariant_of-result c =
    let cost = c.cents-cost.result in
    let fee = c.cents-fee.result in
    let copay = c.cents-copay.result in
    let total = c.cents-total.result in
    record {
      cost = bounded cost c.cents-cost.ensures.in_range;
      fee = bounded fee c.cents-fee.ensures.in_range;
      copay = bounded copay c.cents-copay.ensures.in_range;
      total = bounded total c.cents-total.ensures.in_range;
    }
