-- What is printed of a book's own answer or fault.
use Rattle.std.specs.Prelude.{ℕ, List, [], ◌++◌, Option, Some, None, slice_get, Result, Ok, Err, codes}
use Rattle.input_text.specs.Printing.{printed}
use Rattle.claim_model.specs.declared.refusal.Fault.{Fault}
use Rattle.claim_model.specs.Refusal.{refusal_of, name_by}
use Rattle.claim_model.specs.Rows.{Row}
use Rattle.payer_book.specs.declared.book.placing.Placed.{Placed}
use Rattle.payer_book.specs.Added.{kept_answer}

-- the answer of a row; none of its bytes where there is no row
abbrev pub answer_of : Option Row → List ℕ
answer_of None = []
answer_of (Some row) = kept_answer row

-- the answer of the row at a place
abbrev pub answer_in : List Row → ℕ → List ℕ
answer_in rows place = answer_of (slice_get rows place)

-- what stands after the number, where these are the rows
abbrev pub said_text : List Row → Result Placed Fault → List ℕ
said_text rows (Ok placed) = codes " " ++ printed (answer_in rows placed.place)
said_text rows (Err fault) = codes " refused " ++ name_by (refusal_of fault)
