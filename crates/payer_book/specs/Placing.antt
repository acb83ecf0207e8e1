-- Which row has the answer to a request.
use Rattle.std.specs.Prelude.{◌≡◌, ℕ, ◌<◌, Bool, List, length, slice_get, Some, Result, Ok, IfOk}
use Rattle.bin_routes.specs.Table.{RouteMaps}
use Rattle.claim_model.specs.Words.{Advice, TxnId}
use Rattle.claim_model.specs.Context.{Context}
use Rattle.claim_model.specs.Bytes.{bytes_with}
use Rattle.claim_model.specs.declared.refusal.Fault.{Fault}
use Rattle.claim_model.specs.Rows.{Row, Book}
use Rattle.claim_model.specs.Book.{answered, unadvised}
use Rattle.payer_book.specs.declared.book.placing.Placed.{Placed}
use Rattle.payer_book.specs.Added.{kept_answer}

-- the request of an id is answered with the answer of the row at that place, which leaves the book like this
pub record IsAnsweredAt (ctx : Context) (b : Book) (advice : Advice) (id : TxnId) (request : List ℕ) (after : Book) (place : ℕ) (kept : Bool) : Type 0 where
  pub within : place < length after.rows
  pub ruled : (row : Row) → slice_get after.rows place ≡ Some row → answered ctx b advice id request ≡ Ok (record { book = after; bytes = kept_answer row; kept = kept })

-- the request is answered with the row at the place that is told
abbrev pub AnswersAt : RouteMaps → Book → TxnId → List ℕ → Book → Result Placed Fault → Type 0
AnswersAt routes old id request new result = IfOk result (λ at. IsAnsweredAt (bytes_with routes) old unadvised id request new at.place at.kept)
