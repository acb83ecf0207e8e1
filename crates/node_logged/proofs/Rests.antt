-- A list that was written whole.
use Rattle.std.proofs.Common.{◌≡◌, ℕ, List, [], ◌∷◌, ◌++◌, drop, take, length, refl, sym, ap, ◌∙◌}

pub take_whole : {A : Type 0} (n : ℕ) (new old : List A) → length new ≡ length old → n ≡ length old → take n (new ++ drop (length new) old) ≡ new
take_whole n new old e f = ap (λ (m : ℕ). take m (new ++ drop (length new) old)) (f ∙ sym e) ∙ by new (drop (length new) old)
  where
    by : {A : Type 0} (xs ys : List A) → take (length xs) (xs ++ ys) ≡ xs
    by [] [] = refl
    by [] (y ∷ ys) = refl
    by (x ∷ xs) ys = ap (λ zs. x ∷ zs) (by xs ys)
