-- What a call adds to a text.
use Rattle.std.specs.Prelude.{◌≡◌, ℕ, List, ◌++◌}
use Rattle.std.specs.Global.{Vec}
use Rattle.table_text.specs.Members.{Row}
use Rattle.table_text.specs.Rows.{row_text, rows_text}
use Rattle.table_text.specs.declared.layout.Style.{Style}

-- these bytes come after what was there
abbrev pub Adds : Vec ℕ → Vec ℕ → List ℕ → Type 0
Adds old new text = new.items ≡ old.items ++ text

-- a row does, and rows do, in a style
abbrev pub AddsRow : Style → Vec ℕ → Vec ℕ → Row → Type 0
AddsRow style old new row = Adds old new (row_text style row)

abbrev pub AddsRows : Style → Vec ℕ → Vec ℕ → List Row → Type 0
AddsRows style old new rows = Adds old new (rows_text style rows)
