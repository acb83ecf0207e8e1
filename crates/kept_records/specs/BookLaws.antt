-- What the laws of books at rest speak of.
use Rattle.std.specs.Prelude.{◌≡◌, ℕ, ◌<◌, ◌≤◌, ◌^◌, ◌⊎◌, true, List, length, map, Some}
use Rattle.std.specs.List.{AllByRecursion}
use Rattle.envelope.specs.Txn.{IsTxn}
use Rattle.claim_profile.specs.Readable.{readable_header}
use Rattle.plan_rules.specs.Terms.{IsPlan}
use Rattle.claim_model.specs.Rows.{Book, BookSettings}
use Rattle.payer_book.specs.Added.{KeptRow, kept_row, added_all}
use Rattle.envelope.specs.Envelope.{longest_payload}
use Rattle.kept_records.specs.Versions.{has_one}
use Rattle.kept_records.specs.Books.{book_text, first_book}

-- a row of which each part fits its field
pub record IsKeptRow (k : KeptRow) : Type 0 where
  pub id : IsTxn k.id
  pub request : length k.request ≤ longest_payload
  pub answer : length k.answer ≤ longest_payload

abbrev pub AreKeptRows : List KeptRow → Type 0
AreKeptRows rows = AllByRecursion IsKeptRow rows

-- the request has exactly one transaction
abbrev pub HasOne : KeptRow → Type 0
HasOne k = has_one (readable_header k.request) ≡ true

abbrev pub HaveOne : List KeptRow → Type 0
HaveOne rows = AllByRecursion HasOne rows

-- a book that can be made by adding its rows, one by one, to an empty one
abbrev pub IsMade : Book → Type 0
IsMade b = added_all (Some (first_book b.payer b.settings b.plan)) (map kept_row b.rows) ≡ Some b

-- a book of which each part fits its field
pub record FitsBook (b : Book) : Type 0 where
  pub payer : b.payer < 2 ^ 16
  pub serial : b.settings.serial < 2 ^ 64
  pub plan : IsPlan b.plan
  pub few : length b.rows < 2 ^ 32
  pub rows : AreKeptRows (map kept_row b.rows)

-- a book that can be made, of which each part fits its field
pub record IsKeepable (b : Book) : Type 0 where
  pub fits : FitsBook b
  pub made : IsMade b

-- bytes are the text of a book of this payer and these settings: of version 2, or of version 1 where each request has one transaction
pub record IsTextOf (payer : ℕ) (settings : BookSettings) (bytes : List ℕ) (b : Book) : Type 0 where
  pub of_payer : b.payer ≡ payer
  pub of_settings : b.settings ≡ settings
  pub book : IsKeepable b
  pub text : (bytes ≡ book_text 2 b) ⊎ ((bytes ≡ book_text 1 b) × HaveOne (map kept_row b.rows))
