-- What a line spells, and a message without the bytes around it.
use Rattle.std.specs.Prelude.{◌≡◌, ℕ, ◌+◌, ◌-◌, ◌*◌, ◌==◌, ◌&&◌, nat_le, List, [], ◌∷◌, ◌++◌, length, take, drop, Bool, true, false, Option, None, Some, Result, Ok, Err, if◌then◌else◌}
use Rattle.d0_segments.specs.Separators.{begins_with}
use Rattle.message_words.specs.declared.spelling.SpellingFault.{SpellingFault}
use Rattle.message_words.specs.declared.spelling.SpellingFault.TheVariants.{OutOfMemory, NoByte}

-- the line spells nothing, for this cause; nothing is known where memory ran out
abbrev pub FailsAt : SpellingFault → Result (List ℕ) ℕ → Type 0
FailsAt OutOfMemory spelled = Unit {0}
FailsAt (NoByte place) spelled = spelled ≡ Err place

-- whether this byte is the last one
abbrev pub ends_with : ℕ → List ℕ → Bool
ends_with byte bytes = begins_with byte (drop (length bytes - 1) bytes)

-- bytes without their first or their last one, where it is dropped
abbrev pub without_first : Bool → List ℕ → List ℕ
without_first true bytes = drop 1 bytes
without_first false bytes = bytes

abbrev pub without_last : Bool → List ℕ → List ℕ
without_last true bytes = take (length bytes - 1) bytes
without_last false bytes = bytes

-- ---- hexadecimal digits

-- what a digit stands for, of either case
unfoldable pub hex_digit : ℕ → Option ℕ
hex_digit letter =
    if nat_le 48 letter && nat_le letter 57 then Some (letter - 48)
    else (if nat_le 97 letter && nat_le letter 102 then Some (letter - 97 + 10)
    else (if nat_le 65 letter && nat_le letter 70 then Some (letter - 65 + 10)
    else None))

-- the byte of two digits, the high one first, or the place in front of which none is spelled
abbrev pub hex_pair : (high low : Option ℕ) → Result ℕ ℕ
hex_pair None low = Err 0
hex_pair (Some high) None = Err 1
hex_pair (Some high) (Some low) = Ok (16 * high + low)

-- the byte at the front of letters; where a digit is left over, the place after it
abbrev pub hex_byte : List ℕ → Result ℕ ℕ
hex_byte [] = Err 0
hex_byte (a ∷ []) = hex_pair (hex_digit a) None
hex_byte (a ∷ b ∷ rest) = hex_pair (hex_digit a) (hex_digit b)

-- a byte and what is spelled after it, or the place where none is
abbrev pub hex_before : ℕ → Result ℕ ℕ → Result (List ℕ) ℕ → Result (List ℕ) ℕ
hex_before place (Err n) behind = Err (place + n)
hex_before place (Ok byte) (Err other) = Err other
hex_before place (Ok byte) (Ok bytes) = Ok (byte ∷ bytes)

-- the bytes that letters from a place on spell, two digits a byte, with spaces before a byte or none; or the first place
-- where no byte is spelled
abbrev pub hex_from : ℕ → List ℕ → Result (List ℕ) ℕ
hex_from place [] = Ok []
hex_from place (a ∷ []) = if a == 32 then Ok [] else hex_before place (hex_byte (a ∷ [])) (Ok [])
hex_from place (a ∷ b ∷ rest) =
    if a == 32 then hex_from (place + 1) (b ∷ rest) else hex_before place (hex_byte (a ∷ b ∷ rest)) (hex_from (place + 2) rest)

-- those that the letters of a line from a place on spell
abbrev pub hex_at : ℕ → List ℕ → Result (List ℕ) ℕ
hex_at place line = hex_from place (drop place line)

-- the bytes that a line spells in hexadecimal digits
unfoldable pub hex_spelled : List ℕ → Result (List ℕ) ℕ
hex_spelled line = hex_from 0 line

-- bytes before those that are spelled
abbrev pub spelled_behind : List ℕ → Result (List ℕ) ℕ → Result (List ℕ) ℕ
spelled_behind bytes (Ok more) = Ok (bytes ++ more)
spelled_behind bytes (Err place) = Err place
