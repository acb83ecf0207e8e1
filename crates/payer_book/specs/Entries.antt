-- A new row that is ready to be entered.
use Rattle.std.specs.Prelude.{◌≡◌, true, ℕ, List, Option, Some}
use Rattle.std.specs.List.{list_all, AllByRecursion}
use Rattle.claim_model.specs.Words.{TxnId, Ruling, Plan}
use Rattle.claim_model.specs.Laws.{IsRuling}
use Rattle.claim_model.specs.Rows.{Row, Book, ruled_rows}
use Rattle.claim_model.specs.Judgement.{rulings_from}
use Rattle.claim_model.specs.Book.{serial_fits, unadvised}
use Rattle.payer_book.specs.declared.ruling.changes.Change.{Change}
use Rattle.payer_book.specs.Changes.{changes_by}
use Rattle.payer_book.specs.Drafts.{Pricing, ByPlan, AsKept}
use Rattle.payer_book.specs.Books.{reading}
use Rattle.payer_book.specs.Origins.{text_said}
use Rattle.payer_book.specs.Added.{kept_answer, kept_rulings, carried_in, row_saying, with_row, with_kept}

-- the book with this plan
abbrev pub with_plan : Book → Plan → Book
with_plan b plan = record { payer = b.payer; settings = b.settings; plan = plan; rows = b.rows }

-- the rulings of a request after the rows of a book, by where its prices come from
abbrev pub rulings_by : Pricing → Book → TxnId → List ℕ → List Ruling
rulings_by (ByPlan plan) b id request = rulings_from reading (with_plan b plan) unadvised (ruled_rows reading b.rows) id 1 (reading.orders request)
rulings_by (AsKept settings said) b id request = kept_rulings b id request said

-- the row of these rulings, with what its answer carries of the text that is given, or else of what they repeat
abbrev pub row_with_said : Book → TxnId → List ℕ → List Ruling → Option (List ℕ) → Row
row_with_said b id request rulings said = row_saying b id request rulings (text_said b request rulings said)

-- the row that a request of an id gets at these prices
abbrev pub row_by : Pricing → Book → TxnId → List ℕ → Option (List ℕ) → Row
row_by prices b id request said = row_with_said b id request (rulings_by prices b id request) said

-- the row has the rulings that the rules give where it pays what it says, each payment with a serial that there is; these are the row's
-- changes, an answer can tell of each ruling and carries what there is of some text, and the row can be added from what is kept of it, whatever the
-- plan is
pub record IsEntry (b : Book) (row : Row) (changes : List Change) : Type 0 where
  pub ruled : row.rulings ≡ kept_rulings b row.id row.request row.rulings
  pub fit : list_all serial_fits row.rulings ≡ true
  pub changed : changes ≡ changes_by (reading.orders row.request) row.rulings
  pub told : AllByRecursion IsRuling row.rulings
  pub carried : (said : List ℕ) × (row.carried ≡ carried_in b row.request row.rulings said)
  pub stands : (plan : Plan) → with_kept (with_plan b plan) row.id row.request (kept_answer row) ≡ Some (with_row (with_plan b plan) row)
