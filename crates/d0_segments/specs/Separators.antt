-- The three separators, and texts without them.
use Rattle.std.specs.Prelude.{ℕ, suc, List, [], ◌∷◌, Bool, true, false, not, ◌&&◌, ◌||◌, ◌==◌, Option, None, Some, option_map, if◌then◌else◌}
use Rattle.std.specs.List.{prefix_len}

-- stands in front of every field
abbrev pub field_separator : ℕ
field_separator = 28

-- stands in front of every group
abbrev pub group_separator : ℕ
group_separator = 29

-- stands in front of every segment
abbrev pub segment_separator : ℕ
segment_separator = 30

-- whether a byte is one of the three
abbrev pub is_separator : ℕ → Bool
is_separator b = b == field_separator || b == group_separator || b == segment_separator

-- whether no byte is a separator
abbrev pub is_plain : List ℕ → Bool
is_plain [] = true
is_plain (b ∷ bs) = not (is_separator b) && is_plain bs

-- whether these are two bytes that are no separators
abbrev pub is_id : List ℕ → Bool
is_id (a ∷ b ∷ []) = not (is_separator a) && not (is_separator b)
is_id _ = false

-- how many bytes stand in front of the next separator or the end
abbrev pub plain_length : List ℕ → ℕ
plain_length bytes = prefix_len (λ b. not (is_separator b)) bytes

-- the place of the first separator
abbrev pub first_separator : List ℕ → Option ℕ
first_separator [] = None
first_separator (b ∷ bs) = if is_separator b then Some 0 else option_map suc (first_separator bs)

-- whether the text ends here, or a separator comes next
abbrev pub ends_here : List ℕ → Bool
ends_here [] = true
ends_here (b ∷ bs) = is_separator b

-- whether the text ends here, or a segment or a group comes next
abbrev pub ends_segment : List ℕ → Bool
ends_segment [] = true
ends_segment (b ∷ bs) = b == segment_separator || b == group_separator

-- whether the text ends here, or a group comes next
abbrev pub ends_group : List ℕ → Bool
ends_group [] = true
ends_group (b ∷ bs) = b == group_separator

-- whether this byte comes next
abbrev pub begins_with : ℕ → List ℕ → Bool
begins_with byte [] = false
begins_with byte (b ∷ bs) = b == byte
