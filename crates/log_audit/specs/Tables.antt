-- The tables of what a run left.
use Rattle.std.specs.Prelude.{◌≡◌, ◌||◌, ℕ, Bool, List, [], ◌∷◌, ◌++◌, codes, map}
use Rattle.std.specs.List.{flat_map, list_any}
use Rattle.claim_model.specs.Words.{Auth}
use Rattle.claim_model.specs.Context.{Context}
use Rattle.claim_model.specs.Counted.{Counted, counted}
use Rattle.claim_model.specs.Held.{journal_in, book_in}
use Rattle.claim_model.specs.Journal.{Journal, JournalAtRest}
use Rattle.claim_model.specs.Node.{Power}
use Rattle.claim_model.specs.Payments.{same_auth}
use Rattle.claim_model.specs.Rows.{Book}
use Rattle.claim_model.specs.World.{World}
use Rattle.pharmacy_journal.specs.Counting.{has_auth}
use Rattle.pharmacy_journal.specs.Listing.{listed}
use Rattle.table_text.specs.Members.{Member, Row}
use Rattle.table_text.specs.Rows.{rows_text, head_text, list_text}
use Rattle.table_text.specs.declared.layout.Style.TheVariants.{Csv, Json}
use Rattle.log_audit.specs.Payments.{book_payments}
use Rattle.log_audit.specs.Entries.{entry_rows}
use Rattle.log_audit.specs.CountedRows.{counted_rows}
use Rattle.log_audit.specs.Rulings.{book_rulings}
use Rattle.log_audit.specs.Packets.{packet_rows}
use Rattle.log_audit.specs.declared.tables.table.Table.{Table}
use Rattle.log_audit.specs.declared.tables.table.Table.TheVariants.{Payments, Entries, Rows, Packets, Counted as CountedTable, Open}

-- one of these payments has this authorization
abbrev pub names_auth : List Counted → Auth → Bool
names_auth cs auth = list_any (λ (c : Counted). same_auth c.auth auth) cs

-- the authorizations of which this holds join those that were there
abbrev pub Joins : List Auth → List Auth → (Auth → Bool) → Type 0
Joins old new more = (a : Auth) → has_auth new a ≡ (has_auth old a || more a)

abbrev pub node_counted : Context → Power Journal JournalAtRest → List Counted
node_counted ctx node = counted ctx (journal_in node)

-- a pharmacy of the world counts the payment of this authorization
abbrev pub is_counted : Context → List (Power Journal JournalAtRest) → Auth → Bool
is_counted ctx nodes auth = names_auth (flat_map (node_counted ctx) nodes) auth

abbrev pub node_payments : Context → (Auth → Bool) → Power Book Book → List Row
node_payments ctx counted node = book_payments ctx counted (book_in node)

-- the payments of all books
abbrev pub world_payments : Context → World → List Row
world_payments ctx w = flat_map (node_payments ctx (is_counted ctx w.pharmacies)) w.payers

abbrev pub journal_rows : Context → JournalAtRest → List Row
journal_rows ctx j = entry_rows j.number (listed j) (counted ctx j)

abbrev pub node_entries : Context → Power Journal JournalAtRest → List Row
node_entries ctx node = journal_rows ctx (journal_in node)

-- the entries of all journals
abbrev pub world_entries : Context → World → List Row
world_entries ctx w = flat_map (node_entries ctx) w.pharmacies

abbrev pub node_rulings : Power Book Book → List Row
node_rulings node = book_rulings (book_in node)

-- the rows of all books, a transaction each
abbrev pub world_rulings : World → List Row
world_rulings w = flat_map node_rulings w.payers

abbrev pub journal_counted : Context → JournalAtRest → List Row
journal_counted ctx j = counted_rows j.number (counted ctx j)

abbrev pub node_counted_rows : Context → Power Journal JournalAtRest → List Row
node_counted_rows ctx node = journal_counted ctx (journal_in node)

-- the payments that pharmacies count
abbrev pub world_counted : Context → World → List Row
world_counted ctx w = flat_map (node_counted_rows ctx) w.pharmacies

-- the rows of a table of a world, where these events sent its packets; how long entries are open is told of logs one by one alone
abbrev pub table_rows : Context → World → List ℕ → Table → List Row
table_rows ctx w senders Payments = world_payments ctx w
table_rows ctx w senders Entries = world_entries ctx w
table_rows ctx w senders Rows = world_rulings w
table_rows ctx w senders Packets = packet_rows ctx w.packets senders
table_rows ctx w senders CountedTable = world_counted ctx w
table_rows ctx w senders Open = []

-- the names of the columns of a table
abbrev pub table_names : Table → List (List ℕ)
table_names Payments =
    codes "payer" ∷ codes "pharmacy" ∷ codes "number" ∷ codes "transaction" ∷ codes "authorization" ∷ codes "state" ∷ codes "reversed_by" ∷ codes "counted" ∷
    codes "bin" ∷ codes "processor_control_number" ∷ codes "provider_qualifier" ∷ codes "provider" ∷ codes "prescription" ∷ codes "fill" ∷ codes "date_of_service" ∷
    codes "cost_cents" ∷ codes "fee_cents" ∷ codes "copay_cents" ∷ codes "paid_cents" ∷
    codes "cardholder" ∷ codes "product" ∷ codes "quantity_thousandths" ∷ codes "submitted_cost_cents" ∷ codes "submitted_fee_cents" ∷ []
table_names Entries = codes "pharmacy" ∷ codes "number" ∷ codes "kind" ∷ codes "transactions" ∷ codes "state" ∷ codes "counted_payments" ∷ codes "counted_cents" ∷ []
table_names Rows =
    codes "payer" ∷ codes "pharmacy" ∷ codes "number" ∷ codes "kind" ∷ codes "transaction" ∷ codes "ruling" ∷ codes "authorization" ∷ codes "reject_codes" ∷
    codes "prescription" ∷ codes "date_of_service" ∷ codes "paid_cents" ∷ []
table_names Packets = codes "packet" ∷ codes "event" ∷ codes "from" ∷ codes "to" ∷ codes "carries" ∷ codes "pharmacy" ∷ codes "number" ∷ codes "bytes" ∷ []
table_names CountedTable =
    codes "pharmacy" ∷ codes "payer" ∷ codes "authorization" ∷ codes "cost_cents" ∷ codes "fee_cents" ∷ codes "copay_cents" ∷ codes "paid_cents" ∷
    codes "prescription" ∷ codes "fill" ∷ []
table_names Open = codes "pharmacy" ∷ codes "number" ∷ codes "kind" ∷ codes "ticks" ∷ []

-- the names of the columns of a row
abbrev pub names_in : Row → List (List ℕ)
names_in row = map (λ (m : Member). m.name) row

-- a row has the columns of a table, in its order
abbrev pub HasColumns : Row → Table → Type 0
HasColumns row table = names_in row ≡ table_names table

-- a table that has these rows, as CSV: the line of its columns' names, and a line for each row
unfoldable pub table_csv : (Table → List Row) → Table → List ℕ
table_csv rows table = head_text (table_names table) ++ rows_text Csv (rows table)

-- its name in JSON
abbrev pub table_name : Table → List ℕ
table_name Payments = codes "payments"
table_name Entries = codes "entries"
table_name Rows = codes "rows"
table_name Packets = codes "packets"
table_name CountedTable = codes "counted"
table_name Open = codes "open"

-- a table as a member of an object of JSON, after a comma
unfoldable pub table_member : (Table → List Row) → Table → List ℕ
table_member rows table = codes ",\n\"" ++ (table_name table ++ (codes "\":" ++ list_text (rows_text Json (rows table))))

-- all tables as members, this one among them
unfoldable pub table_members : (Table → List Row) → Table → List ℕ
table_members rows own =
    table_member rows Payments ++ (table_member rows Entries ++ (table_member rows Rows ++ (table_member rows own ++ table_member rows CountedTable)))
