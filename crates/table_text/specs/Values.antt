-- Values in each of the styles.
use Rattle.std.specs.Prelude.{ℕ, Bool, true, false, List, [], ◌++◌, codes, decimal}
use Rattle.input_text.specs.Printing.{printed}
use Rattle.table_text.specs.Members.{Value, Number, Text, Named, Flag, Nothing}
use Rattle.table_text.specs.Quoting.{csv_text, json_letters, json_text}

abbrev pub flag_text : Bool → List ℕ
flag_text true = codes "true"
flag_text false = codes "false"

-- a value as a field of CSV
abbrev pub csv_value : Value → List ℕ
csv_value (Number number) = decimal number
csv_value (Text bytes) = csv_text bytes
csv_value (Named letters number) = printed letters ++ decimal number
csv_value (Flag holds) = flag_text holds
csv_value Nothing = []

-- letters and a number as a text of JSON
unfoldable pub json_named : List ℕ → ℕ → List ℕ
json_named letters number = codes "\"" ++ (json_letters letters ++ (decimal number ++ codes "\""))

-- a value as JSON
abbrev pub json_value : Value → List ℕ
json_value (Number number) = decimal number
json_value (Text bytes) = json_text bytes
json_value (Named letters number) = json_named letters number
json_value (Flag holds) = flag_text holds
json_value Nothing = codes "null"
