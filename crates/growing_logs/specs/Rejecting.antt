-- The rows of routes by which what a node has as rejected stays rejected.
use Rattle.std.specs.Prelude.{◌≡◌, ℕ, Bool, List, [], ◌∷◌, ◌++◌, length, Option, Some, None, IsTrue}
use Rattle.std.specs.Global.{Vec}
use Rattle.std.specs.Option.{option_map}
use Rattle.bin_routes.specs.Key.{RouteKey}
use Rattle.world_setup.specs.Seen.{node_seen}
use Rattle.settings_digest.specs.Digests.{under}
use Rattle.log_growth.specs.Over.{Becomes, StaysFor}
use Rattle.log_growth.specs.declared.growth.Grown.{Grown}
use Rattle.log_growth.specs.Rejected.{AreReroutedIn}
use Rattle.log_growth.specs.declared.over.Gone.{Gone}
use Rattle.log_growth.specs.declared.over.Gone.TheVariants.{Already, Over}
use Rattle.log_growth.specs.declared.over.OverFault.{OverFault}
use Rattle.log_growth.specs.declared.over.OverFault.TheVariants.{OutOfMemory}
use Rattle.growing_logs.specs.declared.fault.GrowFault.{GrowFault}
use Rattle.growing_logs.specs.declared.fault.GrowFault.TheVariants as grow
use Rattle.rejected_rows.specs.Rows.{rows_in}

abbrev pub IsNoMemory : OverFault → Type 0
IsNoMemory why = why ≡ OutOfMemory

abbrev pub text_of : Option (Vec ℕ) → Option (List ℕ)
text_of rows = option_map (λ (v : Vec ℕ). v.items) rows

-- rows are those of the entries with a rejection for want of a route which their requests have now; a log that is there has none
abbrev pub AreRowsOf : List ℕ → Gone → Option (Vec ℕ) → Type 0
AreRowsOf text (Already node) rows = text_of rows ≡ Some []
AreRowsOf text (Over node written) rows = (found : List (ℕ × RouteKey)) × (AreReroutedIn text (node_seen node) written.items found × (text_of rows ≡ rows_in found))

-- so of a log that goes over, or is there
abbrev pub AreRowsFor : Grown → List ℕ → List ℕ → Option (Vec ℕ) → Type 0
AreRowsFor grown text bytes rows = (gone : Gone) × (Becomes (under grown.old bytes) text bytes gone × AreRowsOf text gone rows)

-- a text is the rows of these logs, one after the other, as they were found, the newest first
pub data AreAllRows (grown : Grown) (text : List ℕ) : List (List ℕ) → List ℕ → Type 0 where
  no_rows : AreAllRows grown text [] []
  more_rows : {found : List (List ℕ)} {rows : List ℕ} (bytes : List ℕ) (own : Vec ℕ) (after : List ℕ) → AreAllRows grown text found rows → AreRowsFor grown text bytes (Some own) → after ≡ rows ++ own.items → AreAllRows grown text (bytes ∷ found) after

-- the log that was read last stands at this place, those before it have rows, and it is of this kind
pub record IsLast (grown : Grown) (text : List ℕ) (found : List (List ℕ)) (place : ℕ) (Is : List ℕ → Type 0) : Type 0 where
  pub before : List (List ℕ)
  pub bytes : List ℕ
  pub rows : List ℕ
  pub last : found ≡ bytes ∷ before
  pub at : length before ≡ place
  pub have_rows : AreAllRows grown text before rows
  pub is : Is bytes

-- there are no rows since the log that was read last stays, or has a text that settings cannot spell; since a log could not be read; or for want of memory
abbrev pub HasNoRows : Grown → List ℕ → List (List ℕ) → (failed : Bool) → GrowFault → Type 0
HasNoRows grown text found failed grow.OutOfMemory = Unit {0}
HasNoRows grown text found failed (grow.Output error) = ⊥
HasNoRows grown text found failed (grow.Unread fault) = IsTrue failed
HasNoRows grown text found failed (grow.Busy place) = ⊥
HasNoRows grown text found failed (grow.File place error) = ⊥
HasNoRows grown text found failed (grow.Stays place fault) = IsLast grown text found place (λ bytes. StaysFor (under grown.old bytes) text bytes fault)
HasNoRows grown text found failed (grow.Unspelled place) = IsLast grown text found place (λ bytes. AreRowsFor grown text bytes None)
HasNoRows grown text found failed grow.SomeStay = ⊥
