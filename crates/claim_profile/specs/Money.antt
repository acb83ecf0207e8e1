-- The four amounts of a paid claim, in cents.
use Rattle.std.specs.Prelude.{ℕ, ℤ, pos, ◌≤◌, ◌≤ℤ◌}

-- ingredient cost, dispensing fee, what the patient pays, and what the plan pays
pub record Money : Type 0 where
  pub cost : ℕ
  pub fee : ℕ
  pub copay : ℕ
  pub total : ℕ

-- no amount is negative
abbrev pub NoneNegative : ℤ → ℤ → ℤ → ℤ → Type 0
NoneNegative cost fee copay total = (pos 0 ≤ℤ cost) × (pos 0 ≤ℤ fee) × (pos 0 ≤ℤ copay) × (pos 0 ≤ℤ total)

-- the largest amount that eight digits spell
abbrev pub largest : ℕ
largest = 99999999

-- amounts that can be written
pub record IsMoney (m : Money) : Type 0 where
  pub cost : m.cost ≤ largest
  pub fee : m.fee ≤ largest
  pub copay : m.copay ≤ largest
  pub total : m.total ≤ largest
