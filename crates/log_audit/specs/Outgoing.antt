-- A text that goes out piece by piece.
use Rattle.std.specs.Prelude.{◌≡◌, ℕ, Bool, true, false, List, ◌++◌, Option, Result, OnOk}
use Rattle.std.specs.Io.KnownBytes.{Appends}
use Rattle.bin_routes.specs.Table.{RouteMaps}
use Rattle.claim_model.specs.Bytes.{bytes_with}
use Rattle.claim_model.specs.Context.{Context}
use Rattle.table_text.specs.Members.{Row}
use Rattle.table_text.specs.Rows.{rows_text}
use Rattle.table_text.specs.declared.layout.Style.{Style}

-- what a writer was handed, what it took of that, what it has now, where that is known, and whether a call of it failed
pub record Passed : Type 0 where
  pub handed : List ℕ
  pub written : List ℕ
  pub contents : Option (List ℕ)
  pub failed : Bool

-- bytes are the beginning of others
abbrev pub Begins : List ℕ → List ℕ → Type 0
Begins front whole = (rest : List ℕ) × (front ++ rest ≡ whole)

-- a writer took bytes, which were noted after others, and these are left of a piece
pub record Took (old new : Option (List ℕ)) (noted then left piece : List ℕ) : Type 0 where
  pub bytes : List ℕ
  pub noted_are : then ≡ noted ++ bytes
  pub taken : Appends old new bytes
  pub whole : bytes ++ left ≡ piece

-- some of it are left, or none
abbrev pub TookSome : Option (List ℕ) → Option (List ℕ) → List ℕ → List ℕ → List ℕ → Type 0
TookSome old new noted then piece = (left : List ℕ) × Took old new noted then left piece

-- a piece is written after what was written where no call failed before; a beginning of it where one fails now
pub record Passes (failed failing : Bool) (written then piece : List ℕ) : Type 0 where
  pub works : failing ≡ false → (failed ≡ false) × (then ≡ written ++ piece)
  pub front : failed ≡ false → Begins then (written ++ piece)
  pub still : failed ≡ true → then ≡ written

-- these bytes are put after what was put
abbrev pub Puts : List ℕ → List ℕ → List ℕ → Type 0
Puts old new text = new ≡ old ++ text

-- rows are, in a style
abbrev pub PutsRows : Style → List ℕ → List ℕ → List Row → Type 0
PutsRows style old new rows = Puts old new (rows_text style rows)

-- what is told in a context is put, under all routes
abbrev pub TellsText : {A : Type 0} → {B : Type 0} → List ℕ → List ℕ → (Context → List ℕ) → Result A B → Type 0
TellsText old new told result = (routes : RouteMaps) → OnOk result (Puts old new (told (bytes_with routes)))

abbrev pub TellsPut : {A : Type 0} → {B : Type 0} → Style → List ℕ → List ℕ → (Context → List Row) → Result A B → Type 0
TellsPut style old new told result = (routes : RouteMaps) → OnOk result (PutsRows style old new (told (bytes_with routes)))

-- some text of which this holds is put
pub record PutsSome (holds : List ℕ → Type 0) (old new : List ℕ) : Type 0 where
  pub text : List ℕ
  pub put : Puts old new text
  pub is : holds text
