-- Records of CSV that are written with two fields more.
use Rattle.std.specs.Prelude.{ℕ, List, [], ◌∷◌, ◌++◌}
use Rattle.csv.specs.Writing.{row_text, default_writer}

-- the line of a record, with two fields after its own
abbrev pub wider_text : List (List ℕ) → List ℕ → List ℕ → List ℕ
wider_text fields one two = row_text default_writer (fields ++ one ∷ two ∷ [])
