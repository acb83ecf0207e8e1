-- Books at rest as bytes: how they are spelled, and how they are read.
use Rattle.std.specs.Prelude.{ℕ, Bool, not, ◌&&◌, ◌==◌, nat_le, List, [], ◌++◌, length, map, Result, Ok}
use Rattle.envelope.specs.Txn.{Txn}
use Rattle.plan_rules.specs.Terms.{Terms, largest, most_products}
use Rattle.claim_model.specs.Rows.{Row, Book, BookSettings}
use Rattle.payer_book.specs.Added.{kept_row, added}
use Rattle.kept_records.specs.declared.book_head.BookHead.{BookHead}
use Rattle.kept_records.specs.declared.fault.RecordFault.{RecordFault}
use Rattle.kept_records.specs.declared.fault.RecordFault.TheVariants.{Short, Version, BadRecord, NotABook}
use Rattle.kept_records.specs.Faults.{◌>>=◌, some_or, when_or, each_in, ended}
use Rattle.kept_records.specs.Products.{products_text}
use Rattle.kept_records.specs.Plans.{listed}
use Rattle.kept_records.specs.Heads.{book_name, book_head_codec}
use Rattle.kept_records.specs.Rows.{rows_text, row_codec}
use Rattle.kept_records.specs.Versions.{is_version, fits_version}

-- the book of these parts
abbrev pub book_of : ℕ → BookSettings → Terms → List Row → Book
book_of payer settings plan rows = record { payer = payer; settings = settings; plan = plan; rows = rows }

-- the head of a book in this version
abbrev pub head_of : ℕ → Book → BookHead
head_of version b = record {
  name = book_name;
  version = version;
  payer = b.payer;
  serial = b.settings.serial;
  fee = b.plan.fee;
  copay = b.plan.copay;
  products = length b.plan.prices;
  rows = length b.rows;
}

-- a book in this version: its head, the products of its plan and its rows
unfoldable pub book_text : ℕ → Book → List ℕ
book_text version b = book_head_codec.text (head_of version b) ++ (products_text b.plan.prices ++ rows_text (map kept_row b.rows))

-- neither the pharmacy nor the number is zero
abbrev pub is_id : Txn → Bool
is_id id = not (id.pharmacy == 0) && not (id.number == 0)

-- the book with the row that stands at the front of the bytes, and what follows it, or what is wrong with it
unfoldable pub row_in : ℕ → ℕ → Book → List ℕ → Result (Book × List ℕ) RecordFault
row_in version place b bytes = do
  row ← some_or (BadRecord place) (row_codec.at bytes)
  named ← when_or (BadRecord place) (is_id row.0.id) row
  fitting ← when_or (BadRecord place) (fits_version version row.0.request) named
  new ← some_or (BadRecord place) (added b fitting.0.id fitting.0.request fitting.0.answer)
  Ok (new, fitting.1)

-- the book with this many rows more, which are all of these bytes, the last of this many
unfoldable pub rows_in : ℕ → ℕ → ℕ → Book → List ℕ → Result Book RecordFault
rows_in version total left b bytes = each_in (row_in version) total left b bytes >>= ended total

-- the head is that of a book of this payer, with this first serial
abbrev pub is_head_of : ℕ → ℕ → BookHead → Bool
is_head_of payer serial head = (head.name == book_name) && ((head.payer == payer) && (head.serial == serial))

-- a plan may have this fee, this copay and this many products
abbrev pub has_terms : BookHead → Bool
has_terms head = nat_le head.fee largest && (nat_le head.copay largest && nat_le head.products most_products)

-- the head that stands at the front of the bytes, and what follows it, or what is wrong with it
unfoldable pub book_head_in : ℕ → ℕ → List ℕ → Result (BookHead × List ℕ) RecordFault
book_head_in payer serial bytes = do
  head ← some_or Short (book_head_codec.at bytes)
  own ← when_or NotABook (is_head_of payer serial head.0) head
  known ← when_or Version (is_version head.0.version) own
  when_or (BadRecord 29) (has_terms head.0) known

-- a plan without products, as the head has it
abbrev pub first_plan : BookHead → Terms
first_plan head = record { fee = head.fee; copay = head.copay; prices = [] }

-- a book without rows
abbrev pub first_book : ℕ → BookSettings → Terms → Book
first_book payer settings plan = book_of payer settings plan []

-- the book that these bytes are, for this payer and these settings, or the first thing that is wrong with them
unfoldable pub book_in : ℕ → BookSettings → List ℕ → Result Book RecordFault
book_in payer settings bytes = do
  head ← book_head_in payer settings.serial bytes
  plan ← each_in listed (length bytes) head.0.products (first_plan head.0) head.1
  rows_in head.0.version (length bytes) head.0.rows (first_book payer settings plan.0) plan.1
