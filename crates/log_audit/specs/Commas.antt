-- A list of JSON whose rows have a comma after each.
use Rattle.std.specs.Prelude.{ℕ, ◌==◌, ◌-◌, Bool, List, length, take, slice_index, cond}

-- the last byte is a comma
abbrev pub ends_in_comma : List ℕ → Bool
ends_in_comma text = slice_index text (length text - 1) == 44

-- a text without the comma at its end
abbrev pub without_comma : List ℕ → List ℕ
without_comma text = cond (ends_in_comma text) (take (length text - 1) text) text
