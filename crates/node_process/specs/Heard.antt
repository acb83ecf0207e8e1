-- The lines of an input that have come whole: each ends at a newline, less one carriage return before it.
use Rattle.std.specs.Prelude.{◌≡◌, ℕ, Bool, false, ◌==◌, List, [], ◌∷◌}
use Rattle.std.specs.List.{slice_split, AllByRecursion}
use Rattle.std.specs.Str.Lines.{strip_carriage_return}

abbrev pub is_newline : ℕ → Bool
is_newline byte = byte == 10

-- all parts but the last, after which no newline has come
abbrev pub full_lines : List (List ℕ) → List (List ℕ)
full_lines [] = []
full_lines (x ∷ []) = []
full_lines (x ∷ y ∷ more) = strip_carriage_return x ∷ full_lines (y ∷ more)

abbrev pub last_part : List (List ℕ) → List ℕ
last_part [] = []
last_part (x ∷ []) = x
last_part (x ∷ y ∷ more) = last_part (y ∷ more)

-- the lines that have come whole
abbrev pub whole_lines : List ℕ → List (List ℕ)
whole_lines bytes = full_lines (slice_split is_newline bytes)

-- the line that has begun
abbrev pub begun_line : List ℕ → List ℕ
begun_line bytes = last_part (slice_split is_newline bytes)

-- no line ends in these bytes
abbrev pub NoNewline : List ℕ → Type 0
NoNewline bytes = AllByRecursion (λ (byte : ℕ). is_newline byte ≡ false) bytes
