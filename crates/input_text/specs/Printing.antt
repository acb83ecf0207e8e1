-- Bytes spelled in printable characters, both ways.
use Rattle.std.specs.Prelude.{ℕ, zero, suc, ◌+◌, ◌*◌, ◌-◌, ◌/◌, ◌%◌, List, [], ◌∷◌, Bool, not, ◌&&◌, ◌==◌, nat_le, nat_lt, Option, Some, None, Result, Ok, Err, if◌then◌else◌}
use Rattle.std.specs.List.{flat_map}

-- the byte is a printable character of ASCII
abbrev pub is_printable : ℕ → Bool
is_printable byte = nat_le 32 byte && nat_le byte 126

-- the byte is written as it is: it is printable, and not the backslash
abbrev pub stands_for_itself : ℕ → Bool
stands_for_itself byte = is_printable byte && not (byte == 92)

-- the lower-case hexadecimal digit of a number below 16
abbrev pub hex_digit : ℕ → ℕ
hex_digit n = if nat_lt n 10 then 48 + n else 87 + n

-- a byte as it is written: `\\` is the backslash, `\F`, `\G` and `\S` are 0x1C, 0x1D and 0x1E, another printable byte stands
-- for itself, and any other byte is `\x` and two hexadecimal digits
unfoldable pub printed_byte : ℕ → List ℕ
printed_byte byte =
    if byte == 92 then 92 ∷ 92 ∷ [] else
    if byte == 28 then 92 ∷ 70 ∷ [] else
    if byte == 29 then 92 ∷ 71 ∷ [] else
    if byte == 30 then 92 ∷ 83 ∷ [] else
    if is_printable byte then byte ∷ [] else 92 ∷ 120 ∷ hex_digit (byte / 16) ∷ hex_digit (byte % 16) ∷ []

-- bytes as they are written
abbrev pub printed : List ℕ → List ℕ
printed bytes = flat_map printed_byte bytes

-- what a hexadecimal digit stands for, in either case
unfoldable pub hex_value : ℕ → Option ℕ
hex_value digit =
    if nat_le 48 digit && nat_le digit 57 then Some (digit - 48) else
    if nat_le 97 digit && nat_le digit 102 then Some (digit - 87) else
    if nat_le 65 digit && nat_le digit 70 then Some (digit - 55) else None

-- the byte that the spelling at the front of a text stands for, and the length of that spelling
abbrev pub Spelling : Type 0
Spelling = ℕ × ℕ

-- `\x` and two digits, of which these are the digits and what follows
abbrev pub hex_spelling : Option ℕ → Option ℕ → Option Spelling
hex_spelling (Some high) (Some low) = Some (16 * high + low, 4)
hex_spelling (Some high) None = None
hex_spelling None low = None

-- the spelling after `\x`
abbrev pub spelling_behind_x : List ℕ → Option Spelling
spelling_behind_x (high ∷ low ∷ rest) = hex_spelling (hex_value high) (hex_value low)
spelling_behind_x (high ∷ []) = None
spelling_behind_x [] = None

-- the spelling after a backslash
unfoldable pub escaped : List ℕ → Option Spelling
escaped [] = None
escaped (letter ∷ rest) =
    if letter == 92 then Some (92, 2) else
    if letter == 70 then Some (28, 2) else
    if letter == 71 then Some (29, 2) else
    if letter == 83 then Some (30, 2) else
    if letter == 120 then spelling_behind_x rest else None

-- the spelling at the front of a text
unfoldable pub first_spelling : List ℕ → Option Spelling
first_spelling [] = None
first_spelling (byte ∷ rest) =
    if byte == 92 then escaped rest else
    if is_printable byte then Some (byte, 1) else None

-- a byte before those of a text
abbrev pub onto : ℕ → Result (List ℕ) ℕ → Result (List ℕ) ℕ
onto byte (Ok bytes) = Ok (byte ∷ bytes)
onto byte (Err place) = Err place

-- what a text spells that begins with this spelling, when its next bytes belong to the spelling and the others spell `after`
abbrev pub spelled_on : ℕ → Option Spelling → (ℕ → Result (List ℕ) ℕ) → Result (List ℕ) ℕ
spelled_on place None after = Err place
spelled_on place (Some spelling) after = onto spelling.0 (after (spelling.1 - 1))

-- what a text spells from a place on whose first bytes, this many, belong to the spelling before them
unfoldable pub unprinted_from : ℕ → ℕ → List ℕ → Result (List ℕ) ℕ
unprinted_from place skipped [] = Ok []
unprinted_from place (suc skipped) (byte ∷ rest) = unprinted_from (place + 1) skipped rest
unprinted_from place zero (byte ∷ rest) =
    spelled_on place (first_spelling (byte ∷ rest)) (λ skipped. unprinted_from (place + 1) skipped rest)

-- the bytes that a text spells, or the place of the first byte at which no spelling begins
abbrev pub unprinted : List ℕ → Result (List ℕ) ℕ
unprinted text = unprinted_from 0 0 text
