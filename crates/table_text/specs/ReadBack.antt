-- What readers give of a table.
use Rattle.std.specs.Prelude.{◌≡◌, ◌<◌, ◌≤◌, ◌^◌, ℕ, false, List, [], ◌∷◌, ◌++◌, length, map, decimal, All}
use Rattle.std.specs.List.{list_any}
use Rattle.csv.specs.Reading.{AreRecords, default_config}
use Rattle.csv.specs.declared.parser.State.TheVariants as state
use Rattle.input_text.specs.Printing.{printed}
use Rattle.table_text.specs.Members.{Value, Number, Text, Named, Flag, Nothing, Member, Row}
use Rattle.table_text.specs.Quoting.{is_special}
use Rattle.table_text.specs.Values.{flag_text}
use Rattle.table_text.specs.Rows.{rows_text, head_text}
use Rattle.table_text.specs.declared.layout.Style.TheVariants.{Csv}

-- a value as a reader of CSV gives it: what stands between commas, or between quotation marks
abbrev pub csv_given : Value → List ℕ
csv_given (Number number) = decimal number
csv_given (Text bytes) = printed bytes
csv_given (Named letters number) = printed letters ++ decimal number
csv_given (Flag holds) = flag_text holds
csv_given Nothing = []

abbrev pub row_given : Row → List (List ℕ)
row_given row = map (λ (m : Member). csv_given m.value) row

-- a value that a table may have: its numbers have 64 bits, and its letters are no commas and no quotation marks
abbrev pub IsHeld : Value → Type 0
IsHeld (Number number) = number < 2 ^ 64
IsHeld (Text bytes) = Unit {0}
IsHeld (Named letters number) = (list_any is_special letters ≡ false) × (number < 2 ^ 64)
IsHeld (Flag holds) = Unit {0}
IsHeld Nothing = Unit {0}

-- a row of two columns or more
pub record IsTableRow (row : Row) : Type 0 where
  pub columns : 2 ≤ length row
  pub held : All (λ (m : Member). IsHeld m.value) row

-- what is written is one record of names, and one for each row: no text of a field runs into the next
abbrev pub CsvIsReadBack : Type 0
CsvIsReadBack = (names : List (List ℕ)) (rows : List Row) → 2 ≤ length names → All IsTableRow rows
    → AreRecords default_config state.StartRecord (head_text names ++ rows_text Csv rows) (map printed names ∷ map row_given rows)
