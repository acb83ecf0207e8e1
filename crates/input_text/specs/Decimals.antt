-- Decimal numbers of a limited number of digits.
use Rattle.std.specs.Prelude.{ℕ, ◌+◌, ◌*◌, ◌-◌, ◌^◌, List, [], ◌∷◌, length, Bool, ◌&&◌, nat_le, Option, Some, None, if◌then◌else◌}
use Rattle.std.specs.List.{list_all}

-- the byte is one of `0` to `9`
abbrev pub is_digit : ℕ → Bool
is_digit byte = nat_le 48 byte && nat_le byte 57

-- the sum of each digit times the power of ten of its place
abbrev pub decimal_value : List ℕ → ℕ
decimal_value [] = 0
decimal_value (digit ∷ rest) = (digit - 48) * 10 ^ length rest + decimal_value rest

-- the word is one digit or more, at most this many, and nothing else
abbrev pub is_decimal : ℕ → List ℕ → Bool
is_decimal max_digits word = nat_le 1 (length word) && nat_le (length word) max_digits && list_all is_digit word

-- the number that the word spells, where it is a decimal number
abbrev pub decimal_number : ℕ → List ℕ → Option ℕ
decimal_number max_digits word = if is_decimal max_digits word then Some (decimal_value word) else None
