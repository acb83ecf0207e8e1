-- Signed amounts as texts of digits of which the last carries the sign, both ways.
use Rattle.std.specs.Prelude.{ℕ, ℤ, pos, negsuc, ◌-◌, ◌/◌, ◌%◌, ◌^◌, ◌<◌, List, [], ◌∷◌, ◌++◌, length, take, position, slice_index, codes, Option, Some, None, Result, Ok, Err, nat_lt, ◌==◌, if◌then◌else◌}
use Rattle.std.specs.Char.{is_ascii_digit}
use Rattle.std.specs.Int.RustNames.{unsigned_abs}
use lib.IntN.{neg_ℤ}
use Rattle.overpunch.specs.declared.amount.Sign.{Sign}
use Rattle.overpunch.specs.declared.amount.Sign.TheVariants.{Positive, Negative}
use Rattle.overpunch.specs.declared.amount.AmountFault.{AmountFault}
use Rattle.overpunch.specs.declared.amount.AmountFault.TheVariants.{Empty, TooLong, BadDigit, BadSign}
use Rattle.overpunch.specs.Number.{places_value, digits_in, first_other, leading_digits}

-- at most eight digits of cents
abbrev pub IsAmount : ℤ → Type 0
IsAmount cents = unsigned_abs cents < 10 ^ 8

-- the last bytes of the amounts of a sign, by their digit
abbrev pub signed_digits : Sign → List ℕ
signed_digits Positive = codes "{ABCDEFGHI"
signed_digits Negative = codes "}JKLMNOPQR"

-- the digit that a byte stands for among the signed ones
abbrev pub digit_among : Sign → ℕ → Option ℕ
digit_among sign byte = position (λ signed. signed == byte) (signed_digits sign)

-- the first that is there
abbrev pub either_sign : Option ℕ → Option ℕ → Option (Sign × ℕ)
either_sign (Some digit) negative = Some (Positive, digit)
either_sign None (Some digit) = Some (Negative, digit)
either_sign None None = None

-- the sign and the digit of an amount's last byte; a plain digit is positive
abbrev pub last_digit_of : ℕ → Option (Sign × ℕ)
last_digit_of byte =
    if is_ascii_digit byte then Some (Positive, byte - 48)
    else either_sign (digit_among Positive byte) (digit_among Negative byte)

-- a number with a sign
abbrev pub signed : Sign → ℕ → ℤ
signed Positive number = pos number
signed Negative number = neg_ℤ (pos number)

-- the cents of digits and a last byte's sign and digit, or the fault: the place of a byte
-- that is no digit before a last byte without a sign
abbrev pub signed_number : List ℕ → Option ℕ → Option (Sign × ℕ) → Result ℤ AmountFault
signed_number front (Some place) last = Err (BadDigit place)
signed_number front None None = Err BadSign
signed_number front None (Some last) = Ok (signed last.0 (places_value (digits_in front ++ last.1 ∷ [])))

-- all bytes but the last
abbrev pub front_of : List ℕ → List ℕ
front_of text = take (length text - 1) text

-- the last byte
abbrev pub last_of : List ℕ → ℕ
last_of text = slice_index text (length text - 1)

-- what a text is as an amount in cents, or its fault
unfoldable pub amount_of : List ℕ → Result ℤ AmountFault
amount_of text =
    if length text == 0 then Err Empty
    else (if nat_lt 8 (length text) then Err TooLong
    else signed_number (front_of text) (first_other (front_of text)) (last_digit_of (last_of text)))

-- the sign with which an amount is written
abbrev pub sign_of : ℤ → Sign
sign_of (pos number) = Positive
sign_of (negsuc number) = Negative

-- an amount's own text: its digits without a leading zero, the last one from the table; zero is `{`
unfoldable pub amount_text : ℤ → List ℕ
amount_text cents = leading_digits (unsigned_abs cents / 10) ++ slice_index (signed_digits (sign_of cents)) (unsigned_abs cents % 10) ∷ []
