-- Why there is no report: the first fault of what was handed in.
use Rattle.std.specs.Prelude.{◌≡◌, ℕ, ◌+◌, ◌==◌, Bool, false, if◌then◌else◌, List, [], ◌∷◌, length, Option, Some, None, option_map, unwrap_or, Result, Ok, Err}
use Rattle.std.specs.Option.{option_or}
use Rattle.std.specs.List.{list_all}
use Rattle.csv.specs.Reading.{default_config, records, strip_bom}
use Rattle.csv.specs.declared.error.ErrorKind.{ErrorKind}
use Rattle.csv.specs.declared.error.ErrorKind.TheVariants as kind
use Rattle.claim_reports.specs.declared.fault.ReportFault.{ReportFault}
use Rattle.claim_reports.specs.declared.fault.ReportFault.TheVariants as fault
use Rattle.claim_reports.specs.declared.naming.Name.{Name}
use Rattle.claim_reports.specs.declared.table.Column.{Column}
use Rattle.claim_reports.specs.Names.{name_text}
use Rattle.claim_reports.specs.Tables.{rows_of, column_of, number_in, optional_in, word_in}

-- what is wrong: in a table, counted from 1 among those that were handed in; in a row of it, counted from 1 after the names; of a sum; at a payment or
-- reversal of the pharmacy, counted from 1
pub data Cause : Type 0 where
  NotCsv : ℕ → Cause
  NoColumn : ℕ → List ℕ → Cause
  HasColumn : ℕ → List ℕ → Cause
  BadValue : ℕ → ℕ → List ℕ → Cause
  TooLarge : Cause
  PaidAgain : ℕ → Cause
  NotStanding : ℕ → Cause

-- the cause that a refusal tells; want of memory is none
abbrev pub cause_of : ReportFault → Option Cause
cause_of fault.OutOfMemory = None
cause_of (fault.NotCsv table) = Some (NotCsv table)
cause_of (fault.NoColumn table name) = Some (NoColumn table name.now)
cause_of (fault.HasColumn table name) = Some (HasColumn table name.now)
cause_of (fault.BadValue table row name) = Some (BadValue table row name.now)
cause_of fault.TooLarge = Some TooLarge
cause_of (fault.PaidAgain number) = Some (PaidAgain number)
cause_of (fault.NotStanding number) = Some (NotStanding number)

-- a refusal is for want of memory, or else it tells what is wrong
pub record Tells (e : ReportFault) (wrong : Option Cause) : Type 0 where
  pub why : option_or (cause_of e) wrong ≡ wrong

-- a call answers where nothing is wrong, and refuses for what is; or it has no memory
abbrev pub RefusesFor : {A : Type 0} → Result A ReportFault → Option Cause → Type 0
RefusesFor (Ok x) wrong = wrong ≡ None
RefusesFor (Err e) wrong = Tells e wrong

-- ---- a table

-- the records that a reader of CSV gives of a text
unfoldable pub records_of : List ℕ → List (List (List ℕ))
records_of text = records default_config (strip_bom text)

-- a table is none where a row has another count of fields than its names
abbrev pub uneven : ℕ → List (List (List ℕ)) → Option Cause
uneven table [] = None
uneven table (names ∷ rows) = if list_all (λ (row : List (List ℕ)). length row == length names) rows then None else Some (NotCsv table)

-- the cause of a fault of a reader of CSV: a record of another length; of all else there is none to tell
abbrev pub unequal : ℕ → ErrorKind → Option Cause
unequal table (kind.UnequalLengths pos expected len) = Some (NotCsv table)
unequal table (kind.Io e) = None
unequal table (kind.Utf8 pos e) = None
unequal table (kind.Serialize text) = None
unequal table (kind.Deserialize pos e) = None
unequal table kind.OutOfMemory = None

-- it lacks a column
abbrev pub missing_at : ℕ → List ℕ → Option ℕ → Option Cause
missing_at table name None = Some (NoColumn table name)
missing_at table name (Some place) = None

abbrev pub missing : ℕ → List (List (List ℕ)) → Name → Option Cause
missing table records name = missing_at table (name_text name) (column_of records (name_text name))

-- it has one that it may not have
abbrev pub present_at : ℕ → List ℕ → Option ℕ → Option Cause
present_at table name None = None
present_at table name (Some place) = Some (HasColumn table name)

abbrev pub present : ℕ → List (List (List ℕ)) → Name → Option Cause
present table records name = present_at table (name_text name) (column_of records (name_text name))

-- the column of a name
abbrev pub column_in : List (List (List ℕ)) → Name → Column
column_in records name = record { place = unwrap_or (column_of records (name_text name)) 0; name = name }

-- ---- a row

-- the name of a column whose value is none of its kind: a number, a number or nothing, one of two words
abbrev pub unread : {A : Type 0} → List ℕ → Option A → Option (List ℕ)
unread name None = Some name
unread name (Some x) = None

abbrev pub bad_number : Column → List (List ℕ) → Option (List ℕ)
bad_number c row = unread (name_text c.name) (number_in c.place row)

abbrev pub bad_optional : Column → List (List ℕ) → Option (List ℕ)
bad_optional c row = unread (name_text c.name) (optional_in c.place row)

abbrev pub bad_word : Column → List ℕ → List ℕ → List (List ℕ) → Option (List ℕ)
bad_word c first second row = unread (name_text c.name) (word_in c.place first second row)

-- a number is the one that is wanted
abbrev pub is_this : Option ℕ → ℕ → Bool
is_this None wanted = false
is_this (Some number) wanted = number == wanted

-- what is bad where it is wanted
abbrev pub bad_if : Bool → Option (List ℕ) → Option (List ℕ)
bad_if wanted bad = if wanted then bad else None

-- the first bad value of a row, of a table and at a place
abbrev pub bad_at : ℕ → ℕ → Option (List ℕ) → Option Cause
bad_at table row name = option_map (BadValue table row) name

-- the first bad value of rows, of which the first has this number
abbrev pub bad_rows : ℕ → (List (List ℕ) → Option (List ℕ)) → ℕ → List (List (List ℕ)) → Option Cause
bad_rows table bad number [] = None
bad_rows table bad number (row ∷ more) = option_or (bad_at table number (bad row)) (bad_rows table bad (number + 1) more)

-- what is wrong with a table of these records: with its names, with its rows; before them with itself
unfoldable pub columns_cause : ℕ → Option Cause → (List (List ℕ) → Option (List ℕ)) → List (List (List ℕ)) → Option Cause
columns_cause table names bad records = option_or names (bad_rows table bad 1 (rows_of records))

unfoldable pub table_cause : ℕ → Option Cause → (List (List ℕ) → Option (List ℕ)) → List (List (List ℕ)) → Option Cause
table_cause table names bad records = option_or (uneven table records) (columns_cause table names bad records)
