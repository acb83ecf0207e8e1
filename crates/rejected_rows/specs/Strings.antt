-- Texts as they stand in a document of TOML.
use Rattle.std.specs.Prelude.{ℕ, List, [], ◌∷◌, ◌/◌, ◌%◌, ◌==◌, ◌||◌, nat_lt, flat_map, if◌then◌else◌}
use Rattle.input_text.specs.Printing.{hex_digit}

-- a byte between the quotation marks of a string: a quotation mark and a backslash after a backslash, a control character by its number, and any other
-- byte as it is
unfoldable pub escaped_byte : ℕ → List ℕ
escaped_byte byte =
    if byte == 34 then 92 ∷ 34 ∷ [] else
    if byte == 92 then 92 ∷ 92 ∷ [] else
    if nat_lt byte 32 || (byte == 127) then 92 ∷ 117 ∷ 48 ∷ 48 ∷ hex_digit (byte / 16) ∷ hex_digit (byte % 16) ∷ [] else byte ∷ []

unfoldable pub escaped : List ℕ → List ℕ
escaped text = flat_map escaped_byte text
