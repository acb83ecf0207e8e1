-- Where the schedule of an input begins, and the text of the settings before it.
use Rattle.std.specs.Prelude.{ℕ, ◌-◌, ◌==◌, ◌||◌, Bool, List, [], ◌∷◌, ◌++◌, length, take, flat_map, slice_index, codes, bytes_eq, if◌then◌else◌}
use Rattle.std.specs.List.{list_any}
use Rattle.std.specs.Str.Lines.{lines}

-- the line that divides
abbrev pub is_divider : List ℕ → Bool
is_divider line = bytes_eq line (codes "---")

-- the lines before the first that is `---`, or all where none is
abbrev pub settings_lines : List (List ℕ) → List (List ℕ)
settings_lines [] = []
settings_lines (line ∷ rest) = if is_divider line then [] else line ∷ settings_lines rest

-- the lines after it; none where no line is `---`
abbrev pub schedule_lines : List (List ℕ) → List (List ℕ)
schedule_lines [] = []
schedule_lines (line ∷ rest) = if is_divider line then rest else schedule_lines rest

-- a line with a newline after it
abbrev pub ended : List ℕ → List ℕ
ended line = line ++ 10 ∷ []

-- lines, each with a newline after it
abbrev pub ended_lines : List (List ℕ) → List ℕ
ended_lines all = flat_map ended all

-- the lines of the settings of an input, each with a newline after it
abbrev pub ended_settings : List ℕ → List ℕ
ended_settings input = ended_lines (settings_lines (lines input))

-- the lines of the schedule of an input
abbrev pub scheduled_lines : List ℕ → List (List ℕ)
scheduled_lines input = schedule_lines (lines input)

-- the last byte of the input is a newline
abbrev pub ends_in_newline : List ℕ → Bool
ends_in_newline input = slice_index input (length input - 1) == 10

-- whether the last line of the settings has a newline in the input
abbrev pub is_ended : List ℕ → Bool
is_ended input = list_any is_divider (lines input) || ends_in_newline input

-- the text of the settings: their lines, each with the newline that it has in the input
unfoldable pub settings_text : List ℕ → List ℕ
settings_text input =
    let text = ended_settings input in
    if is_ended input then text else take (length text - 1) text
