-- A table of rows or payments of payers, with when each was ruled after it.
use Rattle.std.specs.Prelude.{◌≡◌, ℕ, List, [], ◌∷◌, ◌++◌, Option, Some, None, bytes_eq, codes, drop, get_or, if◌then◌else◌, map, option_map, take, is_some}
use Rattle.std.specs.Option.{option_or}
use Rattle.input_text.specs.Decimals.{decimal_number}
use Rattle.claim_reports.specs.declared.ruled.Request.{Request}
use Rattle.claim_reports.specs.declared.ruled.Taken.{Taken}
use Rattle.claim_reports.specs.declared.ruled_rows.Named.{Named}
use Rattle.claim_reports.specs.declared.ruled_rows.RowColumns.{RowColumns}
use Rattle.claim_reports.specs.declared.ruled_rows.CallColumns.{CallColumns}
use Rattle.claim_reports.specs.declared.naming.Name.TheVariants as name
use Rattle.claim_reports.specs.Causes.{Cause, bad_if, bad_number, bad_optional, column_in, columns_cause, missing, present, records_of, table_cause, uneven}
use Rattle.claim_reports.specs.Digits.{ShowsTime}
use Rattle.claim_reports.specs.Ruled.{ruled_at}
use Rattle.claim_reports.specs.Tables.{AreGiven, AreRecordsOf, rows_of, column_of, cell, number_in, optional_in, given_by, ◌>>=◌}
use Rattle.claim_reports.specs.Wider.{wider_text}

-- ---- what the two tables say

-- the columns that name a request, those of a table of rows, and those of a table of calls
abbrev pub named_in : List (List (List ℕ)) → Named
named_in records = record { pharmacy = column_in records name.Pharmacy; number = column_in records name.Number }

abbrev pub row_columns_in : List (List (List ℕ)) → RowColumns
row_columns_in records = record { payer = column_in records name.Payer; named = named_in records }

abbrev pub call_columns_in : List (List (List ℕ)) → CallColumns
call_columns_in records = record {
  node = column_in records name.Node;
  time = column_in records name.Time;
  carries = column_in records name.Carries;
  named = named_in records;
}

-- the request to a payer that a row names
abbrev pub request_to : Named → ℕ → List (List ℕ) → Option Request
request_to c payer row = do
  pharmacy ← number_in c.pharmacy.place row
  number ← number_in c.number.place row
  Some (record { payer = payer; pharmacy = pharmacy; number = number })

-- the request that a row of a payer's table is about
abbrev pub request_in : RowColumns → List (List ℕ) → Option Request
request_in c row = do
  payer ← number_in c.payer.place row
  request_to c.named payer row

-- the number of the payer that a node is, where it is one
abbrev pub payer_named : List ℕ → Option ℕ
payer_named node = if bytes_eq (take 2 node) (codes "pr") then decimal_number 18 (drop 2 node) else None

-- what a payer took by a call that carries a request
abbrev pub taken_by : CallColumns → Option ℕ → List (List ℕ) → Option (Option Taken)
taken_by c None row = Some None
taken_by c (Some payer) row = do
  request ← request_to c.named payer row
  time ← optional_in c.time.place row
  Some (Some (record { request = request; time = time }))

unfoldable pub taken_in : CallColumns → List (List ℕ) → Option (Option Taken)
taken_in c row = if bytes_eq (cell c.carries.place row) (codes "request") then taken_by c (payer_named (cell c.node.place row)) row else Some None

-- the requests of the rows of a table, one of each; and the requests that payers took, by a table of calls
abbrev pub AreRequests : List (List (List ℕ)) → List Request → Type 0
AreRequests records requests = given_by (λ row. option_map Some (request_in (row_columns_in records) row)) (rows_of records) ≡ Some requests

abbrev pub AreTaken : List ℕ → List Taken → Type 0
AreTaken table taken = AreGiven call_columns_in taken_in table taken

-- ---- what is wrong with them

-- the first column that is not there
unfoldable pub named_missing : ℕ → List (List (List ℕ)) → Option Cause
named_missing table records = option_or (missing table records name.Pharmacy) (missing table records name.Number)

unfoldable pub row_columns_missing : ℕ → List (List (List ℕ)) → Option Cause
row_columns_missing table records = option_or (missing table records name.Payer) (named_missing table records)

unfoldable pub call_columns_missing : ℕ → List (List (List ℕ)) → Option Cause
call_columns_missing table records =
    option_or (missing table records name.Node) (option_or (missing table records name.Time) (option_or (missing table records name.Carries) (named_missing table records)))

-- the first bad value of a row: of its payer, its pharmacy, its number
unfoldable pub named_bad : Named → List (List ℕ) → Option (List ℕ)
named_bad c row = option_or (bad_number c.pharmacy row) (bad_number c.number row)

unfoldable pub request_bad : RowColumns → List (List ℕ) → Option (List ℕ)
request_bad c row = option_or (bad_number c.payer row) (named_bad c.named row)

-- of a call that carries a request to a payer: of its pharmacy, its number, its time
unfoldable pub taken_by_bad : CallColumns → Option ℕ → List (List ℕ) → Option (List ℕ)
taken_by_bad c payer row = bad_if (is_some payer) (option_or (named_bad c.named row) (bad_optional c.time row))

unfoldable pub taken_bad : CallColumns → List (List ℕ) → Option (List ℕ)
taken_bad c row = bad_if (bytes_eq (cell c.carries.place row) (codes "request")) (taken_by_bad c (payer_named (cell c.node.place row)) row)

-- what is wrong with the columns and the rows of a table of rows, and with a table of calls
abbrev pub requests_cause : List (List (List ℕ)) → Option Cause
requests_cause records = columns_cause 1 (row_columns_missing 1 records) (request_bad (row_columns_in records)) records

abbrev pub calls_cause : List (List (List ℕ)) → Option Cause
calls_cause records = table_cause 2 (call_columns_missing 2 records) (taken_bad (call_columns_in records)) records

-- why there is no table with times: what is wrong with the first; else it has a column of the two already; else what is wrong with its columns and rows;
-- else with the second
abbrev pub ruled_cause : List ℕ → List ℕ → Option Cause
ruled_cause rows calls =
    option_or (uneven 1 (records_of rows)) (option_or (present 1 (records_of rows) name.RuledAt) (option_or (present 1 (records_of rows) name.RuledOn)
    (option_or (requests_cause (records_of rows)) (calls_cause (records_of calls)))))

-- ---- what is told of them

-- a text has the lines of rows, each with two fields after its own that say its time
abbrev pub AreTimed : List (List (List ℕ)) → List (Option ℕ) → List ℕ → Type 0
AreTimed [] times text = text ≡ []
AreTimed (row ∷ more) times text =
    (at : List ℕ) × (on : List ℕ) × (rest : List ℕ)
    × ShowsTime (get_or times 0 None) at on × (text ≡ wider_text row at on ++ rest) × AreTimed more (drop 1 times) rest

-- a text goes on with the line of a row; with those of rows
abbrev pub AddsRuled : List ℕ → List ℕ → List (List ℕ) → Option ℕ → Type 0
AddsRuled old new row time = (at : List ℕ) × (on : List ℕ) × ShowsTime time at on × (new ≡ old ++ wider_text row at on)

abbrev pub AddsTimed : List ℕ → List ℕ → List (List (List ℕ)) → List (Option ℕ) → Type 0
AddsTimed old new rows times = (text : List ℕ) × (new ≡ old ++ text) × AreTimed rows times text

-- before them the names of the columns, and of the two after
abbrev pub IsTimed : List (List (List ℕ)) → List (Option ℕ) → List ℕ → Type 0
IsTimed [] times text = text ≡ []
IsTimed (names ∷ rows) times text =
    (rest : List ℕ) × (text ≡ wider_text names (codes "ruled_at") (codes "ruled_on") ++ rest) × AreTimed rows times rest

-- a text has each row of a table with when that row's request was ruled: at the first call in another table by which its payer took it
pub record IsRuledTable (table calls text : List ℕ) : Type 0 where
  pub records : List (List (List ℕ))
  pub are : AreRecordsOf table records
  pub no_time : column_of records (codes "ruled_at") ≡ None
  pub no_day : column_of records (codes "ruled_on") ≡ None
  pub requests : List Request
  pub asked : AreRequests records requests
  pub taken : List Taken
  pub took : AreTaken calls taken
  pub told : IsTimed records (map (ruled_at taken) requests) text
