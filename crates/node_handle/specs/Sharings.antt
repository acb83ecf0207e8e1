-- What opening settings, and nodes under them, makes of their handles.
use Rattle.std.specs.Prelude.{◌≡◌, ◌⊎◌, ℕ, List, Ok, Err, Option, Some, None, IsSome}
use Rattle.node_service.specs.declared.fault.ServiceFault.{ServiceFault}
use Rattle.node_service.specs.Opened.{IsSharing, Sharing}
use Rattle.node_service.specs.Refused.{NoSettings}
use Rattle.node_handle.specs.declared.refusal.Refusal.{Refusal}
use Rattle.node_handle.specs.declared.refusal.Refusal.TheVariants.{Closed, Open, OutOfMemory}
use Rattle.node_handle.specs.Calls.{Opens}
use Rattle.node_handle.specs.Hosting.{Hosting}
use Rattle.node_handle.specs.Refusals.{refusal_of}
use Rattle.node_handle.specs.Saying.{Said}

-- a text is refused: want of memory, or it spells no settings, or some that no world takes
abbrev pub RefusesText : List ℕ → Refusal → Type 0
RefusesText text why = (why ≡ OutOfMemory) ⊎ ((fault : ServiceFault) × (NoSettings text fault × (why ≡ refusal_of fault)))

-- opened, the settings are those that the text spells; refused, the handle is as it was: it has settings already, or the text is refused
abbrev pub OpensSettings : Option Sharing → List ℕ → Said → Option Sharing → Type 0
OpensSettings old text (Ok made) new = (s : Sharing) × ((old ≡ None) × ((new ≡ Some s) × IsSharing text s))
OpensSettings old text (Err why) new = (new ≡ old) × (((why ≡ Open) × IsSome old) ⊎ RefusesText text why)

-- a node is opened under settings as it is under each text that they may have been opened from; without settings nothing is
abbrev pub OpensUnder : Option Sharing → Option Hosting → List ℕ → List ℕ → Said → ℕ → ℕ → Option Hosting → Type 0
OpensUnder None old name log said before kept new = (said ≡ Err Closed) × ((new ≡ old) × (kept ≡ before))
OpensUnder (Some s) old name log said before kept new = (text : List ℕ) → IsSharing text s → Opens old text name log said before kept new
