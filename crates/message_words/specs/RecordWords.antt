-- What is said of a journal or a book at rest.
use Rattle.std.specs.Prelude.{ℕ, Bool, ◌&&◌, ◌==◌, nat_lt, List, [], ◌∷◌, length, take, drop, replicate, codes, Option, None, Some, is_none, Result, Ok, Err, if◌then◌else◌}
use Rattle.std.specs.List.{list_all}
use Rattle.d0_header.specs.Field.{is_plain}
use Rattle.d0_header.specs.Request.{request_fault, request_of}
use Rattle.bin_routes.specs.Payer.{payer_number}
use Rattle.claim_model.specs.Journal.{JournalAtRest, PharmacySettings}
use Rattle.claim_model.specs.Rows.{Book, BookSettings}
use Rattle.payer_book.specs.Settings.{settings_of as book_settings}
use Rattle.pharmacy_journal.specs.Settings.{settings_of as journal_settings}
use Rattle.kept_records.specs.Books.{book_in}
use Rattle.kept_records.specs.Journals.{journal_in}
use Rattle.kept_records.specs.declared.fault.RecordFault.{RecordFault}
use Rattle.kept_records.specs.declared.fault.RecordFault.TheVariants as fault
use Rattle.message_parts.specs.declared.dissecting.Carried.{Carried}
use Rattle.message_words.specs.declared.record_lines.Provider.{Provider}
use Rattle.message_parts.specs.AtRest.{is_book}
use Rattle.message_words.specs.declared.sentences.TheConstants.{BOOK, JOURNAL, NO_RECORD, NO_RECORD_AT}
use Rattle.message_words.specs.Facts.{Number, of_row, says_of}
use Rattle.message_words.specs.FaultWords.{FaultTold, fault_said, told_at, told_of}
use Rattle.message_parts.specs.Numbers.{number_in}
use Rattle.message_words.specs.Sayings.{Said}

-- ---- what reads well

-- whose it is, and how many entries or rows it has
abbrev pub book_said : (payer rows : ℕ) → Said
book_said payer rows = says_of (of_row BOOK) (Number payer ∷ Number rows ∷ [])

abbrev pub journal_said : (pharmacy entries : ℕ) → Said
journal_said pharmacy entries = says_of (of_row JOURNAL) (Number pharmacy ∷ Number entries ∷ [])

-- ---- why a message is no record

abbrev pub record_told : RecordFault → FaultTold
record_told fault.OutOfMemory = told_of (codes "OutOfMemory") (codes "out of memory")
record_told fault.Short = told_of (codes "Short") (codes "it is shorter than a head, 9 bytes of a journal and 29 of a book")
record_told fault.Version = told_of (codes "Version") (codes "its version is none that is read")
record_told fault.NotABook =
    told_of (codes "NotABook") (codes "its letters are neither PJ nor PB, or its number or first serial is none")
record_told (fault.BadRecord at) =
    told_at (codes "BadRecord")
    (codes "a rule, a product, an entry or a row is cut off or cannot stand there, or bytes follow the last one") at
record_told (fault.NumberOrder at) = told_at (codes "NumberOrder") (codes "an entry has not the next number") at

abbrev pub record_fault_said : List ℕ → RecordFault → Said
record_fault_said bytes f = fault_said (of_row NO_RECORD) (of_row NO_RECORD_AT) 0 bytes (record_told f)

-- a message that has no head of this many bytes that a record may have: it is too short, or names what no settings name
abbrev pub no_head_said : ℕ → List ℕ → Said
no_head_said size bytes = record_fault_said bytes (if nat_lt (length bytes) size then fault.Short else fault.NotABook)

-- ---- records, under the number, the first serial and the provider that they have themselves

-- the number of a party at its place; none has a larger one
abbrev pub party_number : ℕ → ℕ
party_number number = if nat_lt number 65536 then number else 0

abbrev pub party_in : List ℕ → ℕ
party_in bytes = party_number (number_in (take 2 (drop 3 bytes)))

abbrev pub serial_in : List ℕ → ℕ
serial_in bytes = number_in (take 8 (drop 5 bytes))

abbrev pub book_read_said : List ℕ → Result Book RecordFault → Said
book_read_said bytes (Ok book) = book_said book.payer (length book.rows)
book_read_said bytes (Err f) = record_fault_said bytes f

abbrev pub book_under : {E : Type 0} → List ℕ → Option ℕ → Result BookSettings E → Said
book_under bytes (Some payer) (Ok settings) = book_read_said bytes (book_in payer settings bytes)
book_under bytes (Some payer) (Err none) = no_head_said 29 bytes
book_under bytes None settings = no_head_said 29 bytes

abbrev pub journal_read_said : List ℕ → Result JournalAtRest RecordFault → Said
journal_read_said bytes (Ok journal) = journal_said journal.number (length journal.entries)
journal_read_said bytes (Err f) = record_fault_said bytes f

-- a provider by its qualifier and its number; spaces where a request has no header
pub record Identity : Type 0 where
  pub qualifier : List ℕ
  pub provider : List ℕ

abbrev pub identity_at : List ℕ → Identity
identity_at bytes =
    if is_none (request_fault bytes)
    then record { qualifier = (request_of bytes).qualifier; provider = (request_of bytes).provider }
    else record { qualifier = replicate 2 32; provider = replicate 15 32 }

-- one of the code
abbrev pub identity_seen : Provider → Identity
identity_seen p = record { qualifier = p.qualifier; provider = p.provider }

-- that of the first request
abbrev pub identity_in : List ℕ → List Carried → Identity
identity_in bytes [] = identity_at []
identity_in bytes (first ∷ more) = identity_at (drop first.place bytes)

-- no separator stands in it
abbrev pub is_identity : Identity → Bool
is_identity id = list_all is_plain id.qualifier && list_all is_plain id.provider

-- settings under which a journal may have the rule and the entries that it has. Their switch is number 0, which no switch has: a rule that
-- is written in a record is another one than that of the settings, and theirs are not known
abbrev pub own_settings : Identity → PharmacySettings
own_settings id = journal_settings id.qualifier id.provider (0 ∷ []) 1 1 65536

-- the same where they are settings
abbrev pub stated_settings : Identity → Option PharmacySettings
stated_settings id = if is_identity id then Some (own_settings id) else None

abbrev pub journal_by : List ℕ → ℕ → Option PharmacySettings → Said
journal_by bytes number None = no_head_said 9 bytes
journal_by bytes number (Some settings) = journal_read_said bytes (journal_in number settings bytes)

unfoldable pub journal_under : List ℕ → ℕ → Identity → Said
journal_under bytes number id =
    if number == 0 then no_head_said 9 bytes
    else journal_by bytes number (stated_settings id)

-- what a record is that carries these transmissions, or why it is none
unfoldable pub record_said : List ℕ → List Carried → Said
record_said bytes carried =
    if is_book bytes then book_under bytes (payer_number (party_in bytes)) (book_settings (serial_in bytes) 65536)
    else journal_under bytes (party_in bytes) (identity_in bytes carried)
