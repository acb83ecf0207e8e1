-- Words as they stand in a file of markup.
use Rattle.std.specs.Prelude.{ℕ, List, [], ◌∷◌, ◌==◌, ◌&&◌, nat_le, codes, flat_map, if◌then◌else◌}

-- a byte: the five characters of markup by their names, other printable ASCII characters as they are, and any other byte as `?`
unfoldable pub escaped_byte : ℕ → List ℕ
escaped_byte byte =
    if byte == 60 then codes "&lt;" else
    if byte == 62 then codes "&gt;" else
    if byte == 38 then codes "&amp;" else
    if byte == 34 then codes "&quot;" else
    if byte == 39 then codes "&apos;" else
    if nat_le 32 byte && nat_le byte 126 then byte ∷ [] else codes "?"

unfoldable pub escaped : List ℕ → List ℕ
escaped words = flat_map escaped_byte words
