-- Books made again row by row, from what was kept of each row.
use Rattle.std.specs.Prelude.{ℕ, ◌+◌, cond, ◌&&◌, nat_lt, is_none, bytes_eq, List, [], ◌∷◌, ◌++◌, length, Option, Some, None, Result, if◌then◌else◌}
use Rattle.std.specs.List.{list_all}
use Rattle.claim_profile.specs.Readable.{readable_header}
use Rattle.carried_fields.specs.Carrying.{carrying_text}
use Rattle.claim_model.specs.Words.{TxnId, RequestHeader, AcceptedStatus, Order, Code, Ruling, Answer}
use Rattle.claim_model.specs.Numbered.{numbered}
use Rattle.claim_model.specs.Ruled.{Ruled, ruled}
use Rattle.claim_model.specs.Rows.{Row, Book, ruled_rows}
use Rattle.claim_model.specs.Judgement.{Judged, Unpriced, ToPrice, ToReverse, judged, next_auth, priced, taken_back}
use Rattle.claim_model.specs.Book.{row_of, serial_fits, carries_more}
use Rattle.claim_model.specs.Bytes.{kept_under}
use Rattle.payer_book.specs.Drafts.{kept_verdict, asking_of, kept_consent}
use Rattle.payer_book.specs.Books.{reading}

-- a row as it is kept: its id, its request and its answer's bytes
pub record KeptRow : Type 0 where
  pub id : TxnId
  pub request : List ℕ
  pub answer : List ℕ

-- the answer to a request of this header: status A, one group for each ruling of a row, and what it carries; none of its bytes where there is no
-- header
abbrev pub answer_under : Option RequestHeader → Row → List ℕ
answer_under None row = []
answer_under (Some header) row = carrying_text header AcceptedStatus row.rulings row.carried

-- the answer's bytes of a row; none of its bytes where its request is not readable, which no book's row is
abbrev pub kept_answer : Row → List ℕ
kept_answer row = answer_under (readable_header row.request) row

-- what is kept of a row
abbrev pub kept_row : Row → KeptRow
kept_row row = record { id = row.id; request = row.request; answer = kept_answer row }

-- a judgement as the kept answer has it: what is to be priced is paid as it says, and rejected with 70 where it pays nothing; of a payer
-- that asks, rejected with the codes that it says; a payment is taken back, or that is rejected, where its payer asks about reversals, as it says
abbrev pub kept_ruling_of : Book → List Ruled → Option Ruling → Judged → Ruling
kept_ruling_of b before said (Unpriced ruling) = ruling
kept_ruling_of b before said (ToPrice c) = priced (next_auth b before) c (kept_verdict b.settings.asks c.fill.prescription said)
kept_ruling_of b before said (ToReverse auth v) = taken_back auth v (kept_consent (asking_of b.settings) v.prescription said)

-- the ruling of an order over what was ruled before it, where the kept answer says this of it
unfoldable pub kept_ruling : Book → List Ruled → Option Ruling → Result Order (List Code) → Ruling
kept_ruling b before said order = kept_ruling_of b before said (judged before order)

-- the rulings of a request's groups from a place on, where the kept answer says these rulings: each over all rows before and the
-- earlier places of its own request
abbrev pub kept_rulings_from : Book → List Ruled → TxnId → ℕ → List (Result Order (List Code)) → List Ruling → List Ruling
kept_rulings_from b before id place [] said = []
kept_rulings_from b before id place (order ∷ orders) said =
    let r = kept_ruling b before (numbered said place) order in r ∷ kept_rulings_from b (before ++ ruled id place order r ∷ []) id (place + 1) orders said

-- the rulings of a request after the rows of a book, where the kept answer says these
abbrev pub kept_rulings : Book → TxnId → List ℕ → List Ruling → List Ruling
kept_rulings b id request said = kept_rulings_from b (ruled_rows reading b.rows) id 1 (reading.orders request) said

-- the book with one row more
abbrev pub with_row : Book → Row → Book
with_row b row = record { payer = b.payer; settings = b.settings; plan = b.plan; rows = b.rows ++ row ∷ [] }

-- what an answer to a request with these rulings carries of a text, in a book whose answers do
abbrev pub carried_in : Book → List ℕ → List Ruling → List ℕ → List ℕ
carried_in b request rulings said = cond (carries_more b.settings) (kept_under (readable_header request) rulings said) []

-- the row of a request with these rulings, whose answer carries what there is of a text
abbrev pub row_saying : Book → TxnId → List ℕ → List Ruling → List ℕ → Row
row_saying b id request rulings said = record { id = id; request = request; rulings = rulings; carried = carried_in b request rulings said }

-- the book with one row more, where each of its payments has a serial that there is and the kept answer is its answer
abbrev pub with_answered : Book → List ℕ → RequestHeader → Row → Option Book
with_answered b answer h row =
    if list_all serial_fits row.rulings && bytes_eq (carrying_text h AcceptedStatus row.rulings row.carried) answer then Some (with_row b row) else None

-- the same of the row with these rulings, whose answer carries what the kept one does
abbrev pub with_rulings : Book → TxnId → List ℕ → List ℕ → RequestHeader → List Ruling → Option Book
with_rulings b id request answer h rulings = with_answered b answer h (row_saying b id request rulings answer)

-- the same, where the request is readable and the kept answer says something
abbrev pub with_answer : Book → TxnId → List ℕ → List ℕ → Option RequestHeader → Option Answer → Option Book
with_answer b id request answer None said = None
with_answer b id request answer (Some h) None = None
with_answer b id request answer (Some h) (Some said) = with_rulings b id request answer h (kept_rulings b id request said.rulings)

-- the book with one row more, whose answer is the one that the rules give for what it says; none where it is another
unfoldable pub with_kept : Book → TxnId → List ℕ → List ℕ → Option Book
with_kept b id request answer = with_answer b id request answer (readable_header request) (reading.read_answer answer)

-- the book with one row more; none where it cannot stand there: the book is full, or has the id, or the request is not readable, or
-- the answer is not the one that the rules give
unfoldable pub added : Book → TxnId → List ℕ → List ℕ → Option Book
added b id request answer = if nat_lt (length b.rows) b.settings.cap && is_none (row_of id b.rows) then with_kept b id request answer else None

-- the book without its rows
abbrev pub without_rows : Book → Book
without_rows b = record { payer = b.payer; settings = b.settings; plan = b.plan; rows = [] }

-- the book with all these rows more, in order
abbrev pub added_all : Option Book → List KeptRow → Option Book
added_all None rows = None
added_all (Some b) [] = Some b
added_all (Some b) (row ∷ rows) = added_all (added b row.id row.request row.answer) rows
