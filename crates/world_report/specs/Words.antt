-- A report is a list of lines, and a line is a list of words.
use Rattle.std.specs.Prelude.{ℕ, List, ◌∷◌, ◌++◌, codes}
use Rattle.std.specs.List.{flat_map, join_with_byte}

-- a line as the list of its words
abbrev pub Line : Type 0
Line = List (List ℕ)

-- the text of a line: its words with one space between them, and a newline
unfoldable pub line_text : Line → List ℕ
line_text words = join_with_byte 32 words ++ codes "\n"

-- the text of some lines
unfoldable pub lines_text : List Line → List ℕ
lines_text lines = flat_map line_text lines

-- words with a space before each: how a line goes on after its first word
unfoldable pub behind_spaces : Line → List ℕ
behind_spaces words = flat_map (λ word. 32 ∷ word) words
