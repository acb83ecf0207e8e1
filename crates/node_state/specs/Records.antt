-- What the bytes of a node at rest are seen as: the journal or the book that they are the record of.
use Rattle.std.specs.Prelude.{◌≡◌, ◌<◌, ℕ, List, [], length, Option, Some, None, Result, Ok, Err}
use Rattle.plan_rules.specs.Terms.{Terms}
use Rattle.claim_model.specs.Journal.{PharmacySettings, Journal, JournalAtRest}
use Rattle.claim_model.specs.Rows.{Book, BookSettings}
use Rattle.claim_model.specs.Node.{Power, Up, AtRest}
use Rattle.kept_records.specs.declared.fault.RecordFault.{RecordFault}
use Rattle.pharmacy_journal.specs.Resting.{empty_journal}
use Rattle.kept_records.specs.Journals.{kept_text, journal_in}
use Rattle.kept_records.specs.Books.{book_text, book_in, first_book}

-- what was read, or else this
abbrev pub read_or : {A : Type 0} → A → Result A RecordFault → A
read_or other (Ok read) = read
read_or other (Err fault) = other

-- the journal of this number and these settings that bytes are the record of; the empty one where they are none
abbrev pub journal_of : ℕ → PharmacySettings → List ℕ → JournalAtRest
journal_of number settings bytes = read_or (empty_journal number settings) (journal_in number settings bytes)

-- bytes that are the record, as it is written, of a journal of this number and these settings, and are read as that journal
pub record IsJournal (number : ℕ) (settings : PharmacySettings) (bytes : List ℕ) : Type 0 where
  pub some_number : 0 < number
  pub some_node : 0 < length settings.nodes
  pub journal : JournalAtRest
  pub own_number : journal.number ≡ number
  pub own_settings : journal.settings ≡ settings
  pub text : bytes ≡ kept_text journal
  pub reads : journal_in number settings bytes ≡ Ok journal

-- a plan that pays nothing
abbrev pub no_plan : Terms
no_plan = record { fee = 0; copay = 0; prices = [] }

-- the book of this payer and these settings that bytes are the record of; the empty one where they are none
abbrev pub book_of : ℕ → BookSettings → List ℕ → Book
book_of payer settings bytes = read_or (first_book payer settings no_plan) (book_in payer settings bytes)

-- bytes that are the record, of version 2, of a book of this payer and these settings, and are read as that book
pub record IsBook (payer : ℕ) (settings : BookSettings) (bytes : List ℕ) : Type 0 where
  pub book : Book
  pub own_number : book.payer ≡ payer
  pub own_settings : book.settings ≡ settings
  pub text : bytes ≡ book_text 2 book
  pub reads : book_in payer settings bytes ≡ Ok book

-- the record of a pharmacy at rest: its journal's text; none while it is up
abbrev pub journal_record : Power Journal JournalAtRest → Option (List ℕ)
journal_record (Up j) = None
journal_record (AtRest j) = Some (kept_text j)

-- the record of a payer at rest: its book's text of version 2; none while it is up
abbrev pub book_record : Power Book Book → Option (List ℕ)
book_record (Up b) = None
book_record (AtRest b) = Some (book_text 2 b)
