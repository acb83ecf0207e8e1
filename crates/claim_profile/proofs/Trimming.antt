-- Texts with and without spaces at their end.
use Rattle.std.proofs.Common.{◌≡◌, ◌≢◌, ℕ, ◌+◌, ◌-◌, ◌<◌, cond, List, [], ◌∷◌, ◌++◌, length, take, get_or, refl, ap, ◌∙◌, arith}
use Rattle.std.proofs.lemmas.List.{take_more}
use Rattle.std.proofs.lemmas.Bool.{ne_eqb}
use Rattle.claim_profile.specs.Fields.{before_spaces, trimmed}

-- one space more at the end changes nothing
pub trimmed_space : (xs : List ℕ) → trimmed (xs ++ 32 ∷ []) ≡ trimmed xs
trimmed_space [] = refl
trimmed_space (x ∷ xs) = ap (before_spaces x) (trimmed_space xs)

before_last : (x : ℕ) (xs : List ℕ) (b : ℕ) → before_spaces x (xs ++ b ∷ []) ≡ x ∷ (xs ++ b ∷ [])
before_last x [] b = refl
before_last x (y ∷ ys) b = refl

-- a text whose last byte is no space stays
pub trimmed_last : (xs : List ℕ) (b : ℕ) → b ≢ 32 → trimmed (xs ++ b ∷ []) ≡ xs ++ b ∷ []
trimmed_last [] b ne = ap (λ t. cond t [] (b ∷ [])) (ne_eqb b 32 ne)
trimmed_last (x ∷ xs) b ne = ap (before_spaces x) (trimmed_last xs b ne) ∙ before_last x xs b

-- the front up to a place, with the byte before that place
pub front_with_last : (xs : List ℕ) (end : ℕ) → 0 < end → end - 1 < length xs → take end xs ≡ take (end - 1) xs ++ get_or xs (end - 1) 0 ∷ []
front_with_last xs end some lt =
    let next : end ≡ (end - 1) + 1 = omega arith in
    ap (λ n. take n xs) next ∙ take_more xs (end - 1) 0 lt
