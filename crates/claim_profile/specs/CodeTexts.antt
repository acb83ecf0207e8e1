-- The texts of reject codes (511-FB).
use Rattle.std.specs.Prelude.{ℕ, ◌-◌, nat_le, List, length, replicate, Bool, ◌&&◌, ◌||◌, ◌==◌, Option, Some, None, if◌then◌else◌}
use Rattle.std.specs.List.{list_all}

-- a digit or a capital letter
abbrev pub is_code_letter : ℕ → Bool
is_code_letter b = (nat_le 48 b && nat_le b 57) || (nat_le 65 b && nat_le b 90)

abbrev pub has_code_length : List ℕ → Bool
has_code_length text = length text == 2 || length text == 3

-- two or three digits and capital letters
abbrev pub is_code_text : List ℕ → Bool
is_code_text text = has_code_length text && list_all is_code_letter text

-- the code that a text is, which is none of those that the rules give
abbrev pub other_code : List ℕ → Option (List ℕ)
other_code text = if is_code_text text then Some text else None

-- what stands after the letters in a room for three
abbrev pub no_letters : List ℕ → List ℕ
no_letters text = replicate (3 - length text) 0
