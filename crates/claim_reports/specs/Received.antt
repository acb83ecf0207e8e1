-- What callers were told beside what a run has of a pharmacy, of tables, as a table.
use Rattle.std.specs.Prelude.{◌≡◌, ℕ, ◌==◌, ◌&&◌, ◌++◌, Bool, false, List, [], ◌∷◌, Option, Some, None, bytes_eq, codes, decimal, drop, if◌then◌else◌, is_none, length}
use Rattle.std.specs.Option.{option_or}
use Rattle.std.specs.List.{flat_map, list_all}
use Rattle.std.specs.Result.{result_ok}
use Rattle.input_text.specs.Printing.{unprinted}
use Rattle.table_text.specs.Members.{Row, Number, Text}
use Rattle.table_text.specs.Rows.{head_text, csv_row}
use Rattle.claim_reports.specs.declared.differences.Entry.{Entry}
use Rattle.claim_reports.specs.declared.replies.PacketColumns.{PacketColumns}
use Rattle.claim_reports.specs.declared.replies.ReceiptColumns.{ReceiptColumns}
use Rattle.claim_reports.specs.declared.naming.Name.TheVariants as name
use Rattle.claim_reports.specs.declared.table.Column.{Column}
use Rattle.claim_reports.specs.Names.{name_text}
use Rattle.claim_reports.specs.Causes.{Cause, bad_if, bad_number, column_in, is_this, missing, records_of, table_cause, unread}
use Rattle.claim_reports.specs.Compared.{AreEntries, wanted, entries_cause}
use Rattle.claim_reports.specs.Comparing.{entry_under, last_with}
use Rattle.claim_reports.specs.Replies.{Reply}
use Rattle.claim_reports.specs.Tables.{AreGiven, column_of, cell, number_in, ◌>>=◌}

-- ---- what the tables say

-- the columns of packets, and those of receipts
abbrev pub packet_columns_in : List (List (List ℕ)) → PacketColumns
packet_columns_in records = record {
  to = column_in records name.To;
  carries = column_in records name.Carries;
  pharmacy = column_in records name.Pharmacy;
  number = column_in records name.Number;
  bytes = column_in records name.Bytes;
}

abbrev pub receipt_columns_in : List (List (List ℕ)) → ReceiptColumns
receipt_columns_in records = record { pharmacy = column_in records name.Pharmacy; number = column_in records name.Number; answer = column_in records name.Answer }

-- the bytes that a column spells
abbrev pub spelled_in : ℕ → List (List ℕ) → Option (List ℕ)
spelled_in place row = result_ok (unprinted (cell place row))

-- the name of a pharmacy's node
abbrev pub node_name : ℕ → List ℕ
node_name pharmacy = codes "ph" ++ decimal pharmacy

-- the answer of a packet stands after the 18 bytes of its head
abbrev pub answer_of : PacketColumns → List (List ℕ) → Option Reply
answer_of c row = do
  number ← number_in c.number.place row
  bytes ← spelled_in c.bytes.place row
  Some (record { number = number; bytes = drop 18 bytes })

-- a packet carries an answer to a node
abbrev pub is_answer_to : PacketColumns → List ℕ → List (List ℕ) → Bool
is_answer_to c node row = bytes_eq (cell c.carries.place row) (codes "answer") && bytes_eq (cell c.to.place row) node

-- the answer of a packet to a pharmacy's node, where it is one of the pharmacy's own
unfoldable pub sent_in : PacketColumns → List ℕ → ℕ → List (List ℕ) → Option (Option Reply)
sent_in c node pharmacy row =
    if is_answer_to c node row
    then (number_in c.pharmacy.place row >>= (λ of. wanted (of == pharmacy) (answer_of c row)))
    else Some None

-- what a pharmacy's callers were told of an entry; nothing was told where it is no bytes
abbrev pub receipt_of : ReceiptColumns → List (List ℕ) → Option Reply
receipt_of c row = do
  number ← number_in c.number.place row
  bytes ← spelled_in c.answer.place row
  Some (record { number = number; bytes = bytes })

unfoldable pub receipt_in : ReceiptColumns → ℕ → List (List ℕ) → Option (Option Reply)
receipt_in c pharmacy row = do
  of ← number_in c.pharmacy.place row
  wanted (of == pharmacy) (receipt_of c row)

-- the answers that were sent to a pharmacy, by a table of packets; the receipts of its callers
abbrev pub AreSent : ℕ → List ℕ → List Reply → Type 0
AreSent pharmacy table sent = AreGiven packet_columns_in (λ (c : PacketColumns). sent_in c (node_name pharmacy) pharmacy) table sent

abbrev pub AreReceipts : ℕ → List ℕ → List Reply → Type 0
AreReceipts pharmacy table receipts = AreGiven receipt_columns_in (λ (c : ReceiptColumns). receipt_in c pharmacy) table receipts

-- ---- what is wrong with them

-- the first column that is not there
unfoldable pub packets_missing : ℕ → List (List (List ℕ)) → Option Cause
packets_missing table records =
    option_or (missing table records name.To) (option_or (missing table records name.Carries) (option_or (missing table records name.Pharmacy)
    (option_or (missing table records name.Number) (missing table records name.Bytes))))

unfoldable pub receipts_missing : ℕ → List (List (List ℕ)) → Option Cause
receipts_missing table records = option_or (missing table records name.Pharmacy) (option_or (missing table records name.Number) (missing table records name.Answer))

-- a column whose text spells no bytes
abbrev pub bad_spelling : Column → List (List ℕ) → Option (List ℕ)
bad_spelling c row = unread (name_text c.name) (spelled_in c.place row)

-- the first bad value of a packet: of an answer to the node that of its pharmacy; of one of the pharmacy's own its number, then its bytes
unfoldable pub answer_bad : PacketColumns → List (List ℕ) → Option (List ℕ)
answer_bad c row = option_or (bad_number c.number row) (bad_spelling c.bytes row)

unfoldable pub sent_bad : List ℕ → ℕ → PacketColumns → List (List ℕ) → Option (List ℕ)
sent_bad node pharmacy c row =
    bad_if (is_answer_to c node row) (option_or (bad_number c.pharmacy row) (bad_if (is_this (number_in c.pharmacy.place row) pharmacy) (answer_bad c row)))

-- of a receipt: of its pharmacy; of one of the pharmacy its number, then its answer
unfoldable pub told_bad : ReceiptColumns → List (List ℕ) → Option (List ℕ)
told_bad c row = option_or (bad_number c.number row) (bad_spelling c.answer row)

unfoldable pub receipt_bad : ℕ → ReceiptColumns → List (List ℕ) → Option (List ℕ)
receipt_bad pharmacy c row = option_or (bad_number c.pharmacy row) (bad_if (is_this (number_in c.pharmacy.place row) pharmacy) (told_bad c row))

-- what is wrong with the packets, and with the receipts
abbrev pub packets_cause : ℕ → List (List (List ℕ)) → Option Cause
packets_cause pharmacy records = table_cause 3 (packets_missing 3 records) (sent_bad (node_name pharmacy) pharmacy (packet_columns_in records)) records

abbrev pub receipts_cause : ℕ → List (List (List ℕ)) → Option Cause
receipts_cause pharmacy records = table_cause 1 (receipts_missing 1 records) (receipt_bad pharmacy (receipt_columns_in records)) records

-- why there is nothing to tell: what is wrong with the entries; else with the packets; else with the receipts
abbrev pub received_cause : List ℕ → List ℕ → List ℕ → ℕ → Option Cause
received_cause receipts entries packets pharmacy =
    option_or (entries_cause pharmacy (records_of entries)) (option_or (packets_cause pharmacy (records_of packets)) (receipts_cause pharmacy (records_of receipts)))

-- ---- what is told of them

-- the answer that was sent for a number; of several the last
abbrev pub sent_under : ℕ → List Reply → Option Reply
sent_under number sent = last_with (λ (r : Reply). r.number) number sent

-- an answer that was sent has the bytes that were told
abbrev pub is_answer : Option Reply → List ℕ → Bool
is_answer None told = false
is_answer (Some r) told = bytes_eq r.bytes told

-- what is found of a receipt: that the run has no such entry; where an answer was told, that the entry is open, or that none was sent with these bytes
abbrev pub found_of : Option Entry → Option Reply → List ℕ → Option (List ℕ)
found_of None sent told = Some (codes "no_entry")
found_of (Some e) sent told =
    if length told == 0 then None else
    if e.open then Some (codes "not_answered") else
    if is_answer sent told then None else Some (codes "differs")

abbrev pub receipt_finding : (ℕ → Option Entry) → (ℕ → Option Reply) → Reply → Option (List ℕ)
receipt_finding entries sent r = found_of (entries r.number) (sent r.number) r.bytes

-- the row of it, where something is found
unfoldable pub finding_row : List ℕ → ℕ → Row
finding_row word number = record { name = codes "finding"; value = Text word } ∷ record { name = codes "number"; value = Number number } ∷ []

abbrev pub row_if : Option (List ℕ) → ℕ → List ℕ
row_if None number = []
row_if (Some word) number = csv_row (finding_row word number)

abbrev pub receipt_rows : (ℕ → Option Entry) → (ℕ → Option Reply) → List Reply → List ℕ
receipt_rows entries sent receipts = flat_map (λ (r : Reply). row_if (receipt_finding entries sent r) r.number) receipts

-- nothing is found of them
abbrev pub is_nothing_found : (ℕ → Option Entry) → (ℕ → Option Reply) → List Reply → Bool
is_nothing_found entries sent receipts = list_all (λ (r : Reply). is_none (receipt_finding entries sent r)) receipts

-- a text is what is found of the receipts of a pharmacy beside the entries and the packets of a run, and whether that is nothing
pub record IsReceived (receipts entries packets : List ℕ) (pharmacy : ℕ) (text : List ℕ) (agrees : Bool) : Type 0 where
  pub journal : List Entry
  pub enters : AreEntries pharmacy entries journal
  pub sent : List Reply
  pub sends : AreSent pharmacy packets sent
  pub told : List Reply
  pub tells : AreReceipts pharmacy receipts told
  pub rows : text ≡ head_text (codes "finding" ∷ codes "number" ∷ []) ++ receipt_rows (λ n. entry_under n journal) (λ n. sent_under n sent) told
  pub agreed : agrees ≡ is_nothing_found (λ n. entry_under n journal) (λ n. sent_under n sent) told
