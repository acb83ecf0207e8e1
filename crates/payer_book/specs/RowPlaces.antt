-- The index of a list of rows.
use Rattle.std.specs.Prelude.{◌≡◌, ℕ, ◌<◌, List, length, slice_get, Option, Some, None, option_and_then}
use Rattle.claim_model.specs.Words.{TxnId}
use Rattle.claim_model.specs.Rows.{Row}
use Rattle.claim_model.specs.Book.{row_of}

-- the place that the index has for an id is that of its row, and it has none where there is no row
pub record IsPlaced (rows : List Row) (place_of : TxnId → Option ℕ) : Type 0 where
  pub found : (id : TxnId) → option_and_then (slice_get rows) (place_of id) ≡ row_of id rows
  pub within : (id : TxnId) (place : ℕ) → place_of id ≡ Some place → place < length rows

-- a row stands at a place, and is the one of an id
pub record StandsThere (id : TxnId) (rows : List Row) (place : ℕ) : Type 0 where
  pub within : place < length rows
  pub is : slice_get rows place ≡ row_of id rows

-- where the row of an id stands; nowhere where there is none
abbrev pub IsPlaceOf : TxnId → List Row → Option ℕ → Type 0
IsPlaceOf id rows None = row_of id rows ≡ None
IsPlaceOf id rows (Some place) = StandsThere id rows place
