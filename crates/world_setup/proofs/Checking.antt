-- What the tests of settings decide.
use Rattle.std.proofs.Common.{◌≡◌, suc, ◌==◌, List, [], ◌∷◌, length, refl, arith, eqb-true}
use Rattle.std.proofs.lemmas.Bool.{false_from_ne_true}
use Rattle.claim_model.specs.Settings.{is_empty}

pub empty_by_length : {A : Type 0} (xs : List A) → (length xs == 0) ≡ is_empty xs
empty_by_length [] = refl
empty_by_length (x ∷ xs) = false_from_ne_true (suc (length xs) == 0) (λ t. let e : suc (length xs) ≡ 0 = eqb-true (suc (length xs)) 0 t in omega arith)
