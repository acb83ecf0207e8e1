-- The last byte of a text.
use Rattle.std.proofs.Common.{◌≡◌, ℕ, suc, ◌-◌, ◌==◌, List, [], ◌∷◌, length, Some, arith}
use Rattle.std.specs.Prelude.{slice_get}
use Rattle.claim_profile.specs.Building.{ends_in_space}

pub ends_last : (text : List ℕ) (last : ℕ) → slice_get text (length text - 1) ≡ Some last → (last == 32) ≡ ends_in_space text
ends_last [] last is = absurd cc
ends_last (b ∷ []) last is = cc
ends_last (b ∷ c ∷ cs) last is = ends_last (c ∷ cs) last (rw (minus_one (length cs)) (rw (minus_one (suc (length cs))) at is))
  where
    minus_one : (n : ℕ) → suc n - 1 ≡ n
    minus_one n = omega arith
