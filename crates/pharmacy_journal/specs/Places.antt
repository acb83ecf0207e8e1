-- At which places of a list a test holds.
use Rattle.std.specs.Prelude.{ℕ, ◌+◌, Bool, cond, List, [], ◌∷◌}

-- the places, counted from n, of the elements that pass
abbrev pub places_from : {A : Type 0} → (A → Bool) → ℕ → List A → List ℕ
places_from passes n [] = []
places_from passes n (x ∷ xs) = cond (passes x) (n ∷ places_from passes (n + 1) xs) (places_from passes (n + 1) xs)
