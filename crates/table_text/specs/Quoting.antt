-- Bytes as they stand in a field of CSV, and in a text of JSON.
use Rattle.std.specs.Prelude.{ℕ, Bool, List, [], ◌∷◌, ◌++◌, ◌==◌, ◌||◌, codes, if◌then◌else◌}
use Rattle.std.specs.List.{flat_map, list_any}
use Rattle.input_text.specs.Printing.{printed, is_printable}

-- the byte is a comma or a quotation mark
abbrev pub is_special : ℕ → Bool
is_special byte = (byte == 44) || (byte == 34)

-- a byte between quotation marks of CSV: as it is printed, a quotation mark twice
unfoldable pub csv_byte : ℕ → List ℕ
csv_byte byte = if byte == 34 then codes "\"\"" else printed (byte ∷ [])

unfoldable pub quoted : List ℕ → List ℕ
quoted bytes = codes "\"" ++ (flat_map csv_byte bytes ++ codes "\"")

-- bytes in a field of CSV: as they are printed, between quotation marks where a comma or a quotation mark is among them
unfoldable pub csv_text : List ℕ → List ℕ
csv_text bytes = if list_any is_special bytes then quoted bytes else printed bytes

-- a byte between the quotation marks of JSON: as it is printed, with a backslash before a quotation mark and before a backslash
unfoldable pub json_byte : ℕ → List ℕ
json_byte byte =
    if byte == 34 then codes "\\\"" else
    if byte == 92 then codes "\\\\\\\\" else
    if is_printable byte then byte ∷ [] else 92 ∷ printed (byte ∷ [])

abbrev pub json_letters : List ℕ → List ℕ
json_letters bytes = flat_map json_byte bytes

-- bytes as a text of JSON
unfoldable pub json_text : List ℕ → List ℕ
json_text bytes = codes "\"" ++ (json_letters bytes ++ codes "\"")
