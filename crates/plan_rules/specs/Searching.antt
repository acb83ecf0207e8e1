-- Where an entry stands among entries in the order of their keys.
use Rattle.std.specs.Prelude.{ℕ, suc, List, [], ◌∷◌, Result, Ok, Err}
use Rattle.std.specs.declared.cmp.Ordering.{Ordering}
use Rattle.std.specs.FinMap.Entries.{by_order}

-- one place further
abbrev pub further : Result ℕ ℕ → Result ℕ ℕ
further (Ok place) = Ok (suc place)
further (Err place) = Err (suc place)

-- the place of a key, or else of the first greater one
abbrev pub place_in : {K X : Type 0} → (K → K → Ordering) → K → List (K × X) → Result ℕ ℕ
place_in R key [] = Err 0
place_in R key (entry ∷ rest) = by_order (R key entry.0) (Err 0) (Ok 0) (further (place_in R key rest))
