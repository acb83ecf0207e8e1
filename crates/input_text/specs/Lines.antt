-- The lines of an input. What a line is, is std's `lines`: the bytes up to each newline, less one carriage return before it.
use Rattle.std.specs.Prelude.{ℕ, List, [], ◌∷◌, Bool, true, ◌==◌}
use Rattle.std.specs.List.{enumerate_from}
use Rattle.std.specs.Str.Lines.{lines}

-- what is left of an input: its bytes, and the number of the line that they begin with
pub record LinesLeft : Type 0 where
  pub number : ℕ
  pub bytes : List ℕ

-- the lines that are left, each with its number
abbrev pub numbered_lines : LinesLeft → List (ℕ × List ℕ)
numbered_lines left = enumerate_from left.number (lines left.bytes)

-- the line is empty or begins with `#`
abbrev pub is_skipped : List ℕ → Bool
is_skipped [] = true
is_skipped (first ∷ rest) = first == 35
