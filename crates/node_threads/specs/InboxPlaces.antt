-- The places of an inbox.
use Rattle.std.specs.Prelude.{ℕ, Bool}

-- how many places there are, how many are taken, and whether the inbox was closed
pub record Places : Type 0 where
  pub cap : ℕ
  pub taken : ℕ
  pub closed : Bool

abbrev pub places : ℕ → ℕ → Bool → Places
places cap taken closed = record { cap = cap; taken = taken; closed = closed }
