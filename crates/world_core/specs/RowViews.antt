-- What is told of a row of a payer's book.
use Rattle.std.specs.Prelude.{ℕ, List, [], Option, Some, None}
use Rattle.claim_profile.specs.Readable.{readable_header}
use Rattle.claim_model.specs.Words.{TxnId, RequestHeader, Ruling}
use Rattle.claim_model.specs.Rows.{Row}

-- a row's id, the code of its request, and the ruling of each place
pub record RowTold : Type 0 where
  pub id : TxnId
  pub code : List ℕ
  pub rulings : List Ruling

-- the code of a header
abbrev pub code_in : Option RequestHeader → List ℕ
code_in None = []
code_in (Some h) = h.code

abbrev pub row_told : Row → RowTold
row_told row = record { id = row.id; code = code_in (readable_header row.request); rulings = row.rulings }
