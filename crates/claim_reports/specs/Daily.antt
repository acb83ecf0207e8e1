-- What a payer of several books sends a pharmacy for the rulings of some days, as tables.
use Rattle.std.specs.Prelude.{◌≡◌, ℕ, ◌&&◌, ◌++◌, Bool, false, if◌then◌else◌, List, [], ◌∷◌, Option, Some, None, codes, filter, is_some, map, nat_lt, option_map, unwrap_or}
use Rattle.std.specs.Option.{option_flatten, option_or}
use Rattle.std.specs.List.{flat_map}
use Rattle.table_text.specs.Members.{Number, Text, number_or_nothing}
use Rattle.table_text.specs.Rows.{head_text}
use Rattle.claim_reports.specs.declared.daily.DailyColumns.{DailyColumns}
use Rattle.claim_reports.specs.declared.daily.DailyRemittance.{DailyRemittance}
use Rattle.claim_reports.specs.declared.daily.DailyRuling.{DailyRuling}
use Rattle.claim_reports.specs.declared.ledger.Move.{Move}
use Rattle.claim_reports.specs.declared.naming.Name.TheVariants as name
use Rattle.claim_reports.specs.Causes.{Cause, bad_if, bad_number, column_in, missing, records_of, table_cause}
use Rattle.claim_reports.specs.Ledger.{back_cents, period_cause}
use Rattle.claim_reports.specs.Rulings.{move_to, moved_bad, ruling_columns_in, ruling_columns_missing}
use Rattle.claim_reports.specs.Shelves.{books_text, has, is_in}
use Rattle.claim_reports.specs.Statement.{IsSums, Title, line_names, line_told, numbers_bad, numbers_of, settling_cause}
use Rattle.claim_reports.specs.Tables.{AreGiven, given_by, number_in, rows_of, ◌>>=◌}
use Rattle.claim_reports.specs.Totals.{is_from, is_to}

-- ---- the rulings of the books that moved the pharmacy's money

-- the columns of a table of rows with when each was ruled
abbrev pub daily_columns_in : List (List (List ℕ)) → DailyColumns
daily_columns_in records = record { rulings = ruling_columns_in records; ruled_on = column_in records name.RuledOn }

-- a ruling that moved money
abbrev pub values_of : DailyColumns → ℕ → Move → List (List ℕ) → Option DailyRuling
values_of c payer moves row = do
  ruled_on ← number_in c.ruled_on.place row
  numbers ← numbers_of c.rulings row
  service ← number_in c.rulings.day.place row
  Some (record { payer = payer; ruled_on = ruled_on; numbers = numbers; service = service; moves = moves })

-- where it moved some
abbrev pub if_moved : DailyColumns → ℕ → List (List ℕ) → Option Move → Option (Option DailyRuling)
if_moved c payer row None = Some None
if_moved c payer row (Some moves) = option_map Some (values_of c payer moves row)

abbrev pub of_book_in : DailyColumns → DailyRemittance → ℕ → List (List ℕ) → Option (Option DailyRuling)
of_book_in c asked payer row = do
  moves ← move_to c.rulings asked.pharmacy row
  if_moved c payer row moves

-- the ruling of a row that is of one of the books, and moved the pharmacy's money
unfoldable pub daily_in : DailyColumns → DailyRemittance → List (List ℕ) → Option (Option DailyRuling)
daily_in c asked row = do
  payer ← number_in c.rulings.payer.place row
  if has asked.books payer then of_book_in c asked payer row else Some None

-- those of a table
abbrev pub AreDaily : DailyRemittance → List ℕ → List DailyRuling → Type 0
AreDaily asked table rulings = AreGiven daily_columns_in (λ (c : DailyColumns). daily_in c asked) table rulings

-- ---- of which days

-- a day is before the first one, where there is a first
abbrev pub is_earlier : Option ℕ → ℕ → Bool
is_earlier None day = false
is_earlier (Some first) day = nat_lt day first

abbrev pub is_before : DailyRemittance → DailyRuling → Bool
is_before asked r = is_earlier asked.from r.ruled_on

abbrev pub is_within : DailyRemittance → DailyRuling → Bool
is_within asked r = is_from asked.from (Some r.ruled_on) && is_to asked.to (Some r.ruled_on)

-- what rulings moved
abbrev pub moves_of : List DailyRuling → List Move
moves_of rulings = map (λ (r : DailyRuling). r.moves) rulings

-- those of earlier days and what they moved; those of the days that are asked for
abbrev pub earlier : DailyRemittance → List DailyRuling → List Move
earlier asked rulings = moves_of (filter (is_before asked) rulings)

abbrev pub within : DailyRemittance → List DailyRuling → List DailyRuling
within asked rulings = filter (is_within asked) rulings

-- ---- a row for each ruling of these days

-- the line of a ruling among these moves: a reversal takes back what was paid under its authorization
abbrev pub daily_line : ℕ → List Move → DailyRuling → List ℕ
daily_line pharmacy all r =
    line_told r.payer pharmacy (record { name = codes "ruled_on"; value = Number r.ruled_on }) r.numbers r.moves (Number r.service) (back_cents all r.moves)

abbrev pub daily_lines : ℕ → List Move → List DailyRuling → List ℕ
daily_lines pharmacy all rulings = flat_map (daily_line pharmacy all) rulings

-- all moves up to the end of these days
abbrev pub moves_up_to : DailyRemittance → List DailyRuling → List Move
moves_up_to asked rulings = earlier asked rulings ++ moves_of (within asked rulings)

-- a text has a row for each ruling of these days by which the books moved a pharmacy's money
pub record IsDailyLines (table : List ℕ) (asked : DailyRemittance) (text : List ℕ) : Type 0 where
  pub rulings : List DailyRuling
  pub read : AreDaily asked table rulings
  pub told : text ≡ head_text (line_names (codes "ruled_on")) ++ daily_lines asked.pharmacy (moves_up_to asked rulings) (within asked rulings)

-- ---- the sums of these days

abbrev pub days_title : DailyRemittance → Title
days_title asked = record {
  whose = record { name = codes "payers"; value = Text (books_text asked.books) };
  pharmacy = asked.pharmacy;
  first = record { name = codes "from"; value = number_or_nothing asked.from };
  last = record { name = codes "to"; value = number_or_nothing asked.to };
}

-- a text is the sums of these days over all the books
pub record IsDailySums (table : List ℕ) (asked : DailyRemittance) (text : List ℕ) : Type 0 where
  pub rulings : List DailyRuling
  pub read : AreDaily asked table rulings
  pub sums : IsSums (days_title asked) (earlier asked rulings) (moves_of (within asked rulings)) asked.owed text

-- ---- what is wrong with them

-- the first column that is not there
unfoldable pub daily_missing : ℕ → List (List (List ℕ)) → Option Cause
daily_missing table records = option_or (ruling_columns_missing table records) (missing table records name.RuledOn)

-- the first bad value of a ruling
unfoldable pub values_bad : DailyColumns → List (List ℕ) → Option (List ℕ)
values_bad c row = option_or (bad_number c.ruled_on row) (option_or (numbers_bad c.rulings row) (bad_number c.rulings.day row))

abbrev pub is_moving : DailyColumns → DailyRemittance → List (List ℕ) → Bool
is_moving c asked row = is_some (option_flatten (move_to c.rulings asked.pharmacy row))

-- of a row of the books that of its pharmacy; of one of the pharmacy that of what it moves; where it moves something all else
unfoldable pub book_bad : DailyRemittance → DailyColumns → List (List ℕ) → Option (List ℕ)
book_bad asked c row = option_or (moved_bad c.rulings asked.pharmacy row) (bad_if (is_moving c asked row) (values_bad c row))

unfoldable pub daily_bad : DailyRemittance → DailyColumns → List (List ℕ) → Option (List ℕ)
daily_bad asked c row = option_or (bad_number c.rulings.payer row) (bad_if (is_in asked.books (number_in c.rulings.payer.place row)) (book_bad asked c row))

-- what is wrong with a table
abbrev pub daily_table_cause : DailyRemittance → List (List (List ℕ)) → Option Cause
daily_table_cause asked records = table_cause 1 (daily_missing 1 records) (daily_bad asked (daily_columns_in records)) records

-- the rulings of a table in which nothing is wrong
abbrev pub daily_of : DailyRemittance → List (List (List ℕ)) → List DailyRuling
daily_of asked records = unwrap_or (given_by (daily_in (daily_columns_in records) asked) (rows_of records)) []

-- why there are no lines: what is wrong with the table; else with its rulings
abbrev pub daily_lines_cause : List ℕ → DailyRemittance → Option Cause
daily_lines_cause table asked =
    let rulings = daily_of asked (records_of table) in
    option_or (daily_table_cause asked (records_of table)) (period_cause (earlier asked rulings) (moves_of (within asked rulings)))

-- why there are no sums: what is wrong with the table; else with its rulings or their sums
abbrev pub daily_sums_cause : List ℕ → DailyRemittance → Option Cause
daily_sums_cause table asked =
    let rulings = daily_of asked (records_of table) in
    option_or (daily_table_cause asked (records_of table)) (settling_cause (earlier asked rulings) (moves_of (within asked rulings)) asked.owed)
