-- The transactions of the rows of a book, each as a row.
use Rattle.std.specs.Prelude.{ℕ, List, [], ◌∷◌, ◌++◌, codes, Option, Some, None}
use Rattle.std.specs.List.{flat_map}
use Rattle.claim_profile.specs.Authorization.{authorization_text}
use Rattle.claim_profile.specs.Readable.{readable_header}
use Rattle.claim_profile.specs.Reject.{code_text}
use Rattle.claim_model.specs.Words.{Code, Ruling, TxnId, Paid, Duplicate, Reversed, Rejected}
use Rattle.claim_model.specs.Rows as model
use Rattle.claim_model.specs.Rows.{Book}
use Rattle.table_text.specs.Members.{Row}
use Rattle.log_audit.specs.Kinds.{date_in, kind_in, number_member, optional_member, text_member}
use Rattle.log_audit.specs.Payments.{told_from}
use Rattle.log_audit.specs.declared.tables.rows.RuledAt.{RuledAt}

-- reject codes with a space between them
abbrev pub codes_text : List Code → List ℕ
codes_text [] = []
codes_text (first ∷ others) = code_text first ++ flat_map (λ code. 32 ∷ code_text code) others

-- which transaction of which request a ruling is about
pub record At : Type 0 where
  pub payer : ℕ
  pub pharmacy : ℕ
  pub number : ℕ
  pub kind : List ℕ
  pub transaction : ℕ
  pub date : List ℕ

abbrev pub at_seen : RuledAt → At
at_seen at = record { payer = at.payer; pharmacy = at.pharmacy; number = at.number; kind = at.kind.now; transaction = at.transaction; date = at.date.now }

-- a transaction of a request
abbrev pub ruled_at : ℕ → TxnId → List ℕ → ℕ → List ℕ → At
ruled_at payer id kind transaction date =
    record { payer = payer; pharmacy = id.pharmacy; number = id.number; kind = kind; transaction = transaction; date = date }

-- the row of a transaction that was answered like this: with the prescription, and the total (F9) where it was paid now
unfoldable pub answered_row : At → List ℕ → List ℕ → List ℕ → Option ℕ → Option ℕ → Row
answered_row at ruling authorization rejects prescription paid =
    number_member (codes "payer") at.payer ∷
    number_member (codes "pharmacy") at.pharmacy ∷
    number_member (codes "number") at.number ∷
    text_member (codes "kind") at.kind ∷
    number_member (codes "transaction") at.transaction ∷
    text_member (codes "ruling") ruling ∷
    text_member (codes "authorization") authorization ∷
    text_member (codes "reject_codes") rejects ∷
    optional_member (codes "prescription") prescription ∷
    text_member (codes "date_of_service") at.date ∷
    optional_member (codes "paid_cents") paid ∷ []

-- the row of a ruling
abbrev pub ruling_row : At → Ruling → Row
ruling_row at (Paid auth prescription amounts) = answered_row at (codes "paid") (authorization_text auth) [] (Some prescription) (Some amounts.total)
ruling_row at (Duplicate auth prescription amounts) = answered_row at (codes "duplicate") (authorization_text auth) [] (Some prescription) None
ruling_row at (Reversed auth prescription) = answered_row at (codes "reversed") (authorization_text auth) [] (Some prescription) None
ruling_row at (Rejected rejects) = answered_row at (codes "rejected") [] (codes_text rejects) None None

-- the row of a ruling on a transaction of a row of the book
abbrev pub ruling_rows : ℕ → model.Row → ℕ → Ruling → List Row
ruling_rows payer row transaction ruling =
    ruling_row (ruled_at payer row.id (kind_in (readable_header row.request)) transaction (date_in (readable_header row.request))) ruling ∷ []

-- the transactions of a row of the book
abbrev pub row_rulings : Book → model.Row → List Row
row_rulings b row = told_from (ruling_rows b.payer row) 1 row.rulings

-- the transactions of all rows of a book, oldest first
abbrev pub book_rulings : Book → List Row
book_rulings b = flat_map (row_rulings b) b.rows
