-- The bytes that fields are made of.
use Rattle.std.specs.Prelude.{ℕ, ◌≡◌, ◌&&◌, nat_le, Bool, not, IsTrue, List, length, Option}
use Rattle.std.specs.List.{list_all, position}

-- an ASCII digit
abbrev pub is_digit : ℕ → Bool
is_digit byte = nat_le 48 byte && nat_le byte 57

-- the field separator, the group separator or the segment separator
abbrev pub is_separator : ℕ → Bool
is_separator byte = nat_le 28 byte && nat_le byte 30

-- the digit of a transaction count, 1 to 4
abbrev pub is_count : ℕ → Bool
is_count byte = nat_le 49 byte && nat_le byte 52

-- a byte that may stand in a header
abbrev pub is_plain : ℕ → Bool
is_plain byte = not (is_separator byte)

-- the place of the first separator
abbrev pub first_separator : List ℕ → Option ℕ
first_separator bytes = position is_separator bytes

-- a field of that many bytes, none of them a separator
pub record IsPlain (size : ℕ) (field : List ℕ) : Type 0 where
  pub width : length field ≡ size
  pub plain : IsTrue (list_all is_plain field)

-- a field of that many digits
pub record IsDigits (size : ℕ) (field : List ℕ) : Type 0 where
  pub width : length field ≡ size
  pub digits : IsTrue (list_all is_digit field)
