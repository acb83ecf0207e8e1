-- Rows of changes, each of which is told after those before it.
use Rattle.std.specs.Prelude.{ℕ, ◌==◌, cond, List, [], ◌∷◌, ◌++◌, Option, Some, None}
use Rattle.std.specs.Option.{option_or}
use Rattle.claim_model.specs.Node.{Revision}
use Rattle.table_text.specs.Members.{Row}
use Rattle.log_audit.specs.Changes.{Placed}

-- the rows of changes after these, by how a change is told after others
abbrev pub rows_behind : {A : Type 0} → (told : List A → A → List Row) → (before changes : List A) → List Row
rows_behind told before [] = []
rows_behind told before (c ∷ more) = told before c ++ rows_behind told (before ++ c ∷ []) more

-- the row of what is there
abbrev pub row_if : {V : Type 0} → (V → Row) → Option V → List Row
row_if row None = []
row_if row (Some value) = row value ∷ []

-- what the node of a number has, of what this tells of changes, after one of them, where it had this before
abbrev pub had_then : {V : Type 0} → (Revision → Option V) → ℕ → Option V → Placed → Option V
had_then of number value c = cond (c.number == number) (option_or (of c.to) value) value

-- and after some
abbrev pub had_after : {V : Type 0} → (Revision → Option V) → ℕ → Option V → List Placed → Option V
had_after of number value [] = value
had_after of number value (c ∷ more) = had_after of number (had_then of number value c) more

-- the row of a change after these, if it is one of which this tells: from what there was by the settings and the changes before it, where that is known
abbrev pub rows_of : {V : Type 0} → (Revision → Option V) → (ℕ → Option V) → (ℕ → ℕ → Option V → V → Row) → List Placed → Placed → List Row
rows_of of opening row before c = row_if (row c.number c.place (had_after of c.number (opening c.number) before)) (of c.to)
