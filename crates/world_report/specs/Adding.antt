-- What a call adds to a report.
use Rattle.std.specs.Prelude.{◌≡◌, ℕ, List, ◌++◌, Result, OnOk}
use Rattle.std.specs.Global.{Vec}
use Rattle.bin_routes.specs.Table.{RouteMaps}
use Rattle.claim_model.specs.Bytes.{bytes_with}
use Rattle.claim_model.specs.Context.{Context}
use Rattle.world_report.specs.Words.{Line, behind_spaces, line_text, lines_text}

-- words with a space before each come after what was there
abbrev pub AddsWords : Vec ℕ → Vec ℕ → Line → Type 0
AddsWords old new words = new.items ≡ old.items ++ behind_spaces words

-- a line comes after what was there
abbrev pub AddsLine : Vec ℕ → Vec ℕ → Line → Type 0
AddsLine old new line = new.items ≡ old.items ++ line_text line

-- lines come after what was there
abbrev pub AddsLines : Vec ℕ → Vec ℕ → List Line → Type 0
AddsLines old new lines = new.items ≡ old.items ++ lines_text lines

-- the same of lines that are told in a context: they are told so under all routes
abbrev pub TellsLines : {A : Type 0} → {B : Type 0} → Vec ℕ → Vec ℕ → (Context → List Line) → Result A B → Type 0
TellsLines old new told result = (routes : RouteMaps) → OnOk result (AddsLines old new (told (bytes_with routes)))
