-- What a book decides on a request, before anything is changed.
use Rattle.std.specs.Prelude.{◌≡◌, ℕ, ◌<◌, true, false, List, length, Option, Some, None, Ok}
use Rattle.claim_model.specs.Words.{Advice, TxnId}
use Rattle.claim_model.specs.Context.{Context}
use Rattle.claim_model.specs.Rows.{Row, Book}
use Rattle.claim_model.specs.Book.{row_of, answered}
use Rattle.payer_book.specs.declared.ruling.changes.Change.{Change}
use Rattle.payer_book.specs.Added.{kept_answer, with_row}
use Rattle.payer_book.specs.Entries.{IsEntry}
use Rattle.payer_book.specs.Placing.{IsAnsweredAt}

-- the request is the one of the row at a place, whose answer it gets again, or no row has the id
abbrev pub IsKnown : Context → Book → Advice → TxnId → List ℕ → Option ℕ → Type 0
IsKnown ctx b advice id request (Some place) = IsAnsweredAt ctx b advice id request b place true
IsKnown ctx b advice id request None = row_of id b.rows ≡ None

-- the request gets the answer of this row again
abbrev pub IsAgain : Context → Book → Advice → TxnId → List ℕ → Row → Type 0
IsAgain ctx b advice id request row = answered ctx b advice id request ≡ Ok (record { book = b; bytes = kept_answer row; kept = true })

-- a new row can be entered with these changes, and with it the request is answered with the row's answer
pub record IsNew (ctx : Context) (b : Book) (advice : Advice) (id : TxnId) (request : List ℕ) (row : Row) (changes : List Change) : Type 0 where
  pub entry : IsEntry b row changes
  pub room : length b.rows < b.settings.cap
  pub fresh : row_of row.id b.rows ≡ None
  pub ruled : answered ctx b advice id request ≡ Ok (record { book = with_row b row; bytes = kept_answer row; kept = false })
