-- What a call adds to a text.
use Rattle.std.specs.Prelude.{◌≡◌, ℕ, List, ◌++◌, Result, OnOk}
use Rattle.std.specs.Global.{Vec}
use Rattle.bin_routes.specs.Table.{RouteMaps}
use Rattle.claim_model.specs.Bytes.{bytes_with}
use Rattle.claim_model.specs.Context.{Context}
use Rattle.table_text.specs.Members.{Row}
use Rattle.table_text.specs.Adding.{Adds, AddsRow, AddsRows}
use Rattle.log_audit.specs.Sentences.{told_line, told_lines}
use Rattle.log_audit.specs.declared.sentences.Manner.{Manner}
use Rattle.table_text.specs.declared.layout.Style.{Style}

-- a row, and rows, that are told in a context come after what was there: they are told so under all routes
abbrev pub TellsRow : {A : Type 0} → {B : Type 0} → Style → Vec ℕ → Vec ℕ → (Context → Row) → Result A B → Type 0
TellsRow style old new told result = (routes : RouteMaps) → OnOk result (AddsRow style old new (told (bytes_with routes)))

abbrev pub TellsRows : {A : Type 0} → {B : Type 0} → Style → Vec ℕ → Vec ℕ → (Context → List Row) → Result A B → Type 0
TellsRows style old new told result = (routes : RouteMaps) → OnOk result (AddsRows style old new (told (bytes_with routes)))

-- a line does, and lines do, each by itself
abbrev pub AddsLine : Manner → Vec ℕ → Vec ℕ → List ℕ → Type 0
AddsLine manner old new line = Adds old new (told_line manner line)

abbrev pub AddsLines : Manner → Vec ℕ → Vec ℕ → List (List ℕ) → Type 0
AddsLines manner old new lines = Adds old new (told_lines manner lines)

-- the same of what is told in a context: it is told so under all routes
abbrev pub Tells : {A : Type 0} → {B : Type 0} → Vec ℕ → Vec ℕ → (Context → List ℕ) → Result A B → Type 0
Tells old new told result = (routes : RouteMaps) → OnOk result (Adds old new (told (bytes_with routes)))

-- elements come after those that were there
abbrev pub Joined : {A : Type 0} → Vec A → Vec A → List A → Type 0
Joined old new more = new.items ≡ old.items ++ more
