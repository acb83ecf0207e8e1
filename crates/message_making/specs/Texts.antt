-- Texts in arrays and in fields of fixed width.
use Rattle.std.specs.Prelude.{ℕ, ◌-◌, ◌==◌, Bool, List, ◌++◌, length, take, replicate, Option, Some, None}
use Rattle.std.specs.List.{position}

-- the byte after a text
abbrev pub is_end : ℕ → Bool
is_end byte = byte == 0

abbrev pub text_up_to : Option ℕ → List ℕ → List ℕ
text_up_to (Some end) field = take end field
text_up_to None field = field

-- the text of an array: up to its first zero byte, or all of it
abbrev pub text_in : List ℕ → List ℕ
text_in field = text_up_to (position is_end field) field

-- a text with spaces after it, up to this width
abbrev pub padded : ℕ → List ℕ → List ℕ
padded width text = text ++ replicate (width - length text) 32
