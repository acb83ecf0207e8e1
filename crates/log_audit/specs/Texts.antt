-- Texts of elements that are numbered.
use Rattle.std.specs.Prelude.{ℕ, ◌+◌, List, [], ◌∷◌, ◌++◌}

-- the texts of elements that are numbered from here on, one after another
abbrev pub texts_from : {A : Type 0} → (ℕ → A → List ℕ) → ℕ → List A → List ℕ
texts_from text number [] = []
texts_from text number (x ∷ more) = text number x ++ texts_from text (number + 1) more
