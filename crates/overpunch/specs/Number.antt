-- Numbers as texts of decimal digits, both ways.
use Rattle.std.specs.Prelude.{ℕ, ◌+◌, ◌-◌, ◌*◌, ◌/◌, ◌%◌, ◌^◌, List, [], ◌∷◌, ◌++◌, length, map, not, position, Option, Some, None, Result, Ok, Err, nat_lt, ◌==◌, if◌then◌else◌}
use Rattle.std.specs.Char.{is_ascii_digit}
use Rattle.std.specs.Int.Digits.{digits_of}
use Rattle.overpunch.specs.declared.number.NumberFault.{NumberFault}
use Rattle.overpunch.specs.declared.number.NumberFault.TheVariants.{Empty, TooLong, BadDigit}

-- the sum of digits, each times ten to the power of how many follow it
abbrev pub places_value : List ℕ → ℕ
places_value [] = 0
places_value (digit ∷ rest) = digit * 10 ^ length rest + places_value rest

-- the digits that the bytes `0` to `9` stand for
abbrev pub digits_in : List ℕ → List ℕ
digits_in text = map (λ byte. byte - 48) text

-- the number that a text of digits spells
abbrev pub number_value : List ℕ → ℕ
number_value text = places_value (digits_in text)

-- the place of the first byte that is no digit
abbrev pub first_other : List ℕ → Option ℕ
first_other text = position (λ byte. not (is_ascii_digit byte)) text

-- the number that a text spells, or the place of its first byte that is no digit
abbrev pub spelled_from : List ℕ → Option ℕ → Result ℕ ℕ
spelled_from text None = Ok (number_value text)
spelled_from text (Some place) = Err place

abbrev pub spelled_number : List ℕ → Result ℕ ℕ
spelled_number text = spelled_from text (first_other text)

-- the same, with the fault's name
abbrev pub or_bad_digit : Result ℕ ℕ → Result ℕ NumberFault
or_bad_digit (Ok number) = Ok number
or_bad_digit (Err place) = Err (BadDigit place)

-- what a text is as a number of at most this many digits, or its fault
unfoldable pub number_of : ℕ → List ℕ → Result ℕ NumberFault
number_of digits text =
    if length text == 0 then Err Empty
    else (if nat_lt digits (length text) then Err TooLong else or_bad_digit (spelled_number text))

-- a number's digits as bytes, none for zero
abbrev pub leading_digits : ℕ → List ℕ
leading_digits number = map (λ digit. 48 + digit) (digits_of 10 number)

-- a number's own text: its digits without a leading zero, and `0` for zero
unfoldable pub number_text : ℕ → List ℕ
number_text number = leading_digits (number / 10) ++ (48 + number % 10) ∷ []
