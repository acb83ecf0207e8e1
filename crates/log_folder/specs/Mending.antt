-- A log that is mended: what is told of it, and what was cut off.
use Rattle.std.specs.Prelude.{◌≡◌, ℕ, List, ◌∷◌, Option, Some, None}
use Rattle.claim_model.specs.Node.{Node}
use Rattle.node_service.specs.declared.fault.ServiceFault.{ServiceFault}
use Rattle.node_service.specs.Opened.{IsOpened}
use Rattle.node_service.specs.Refused.{IsRefused}
use Rattle.node_service.specs.Serving.{Serving}
use Rattle.log_turning.specs.Files.{part_in}
use Rattle.log_folder.specs.declared.mending.Condition.{Condition}
use Rattle.log_folder.specs.declared.mending.Condition.TheVariants.{Sound, Damaged}
use Rattle.log_folder.specs.declared.mending.CutOff.{CutOff}
use Rattle.log_folder.specs.declared.mending.CutOff.TheVariants.{NotAsked, Elsewhere, Done, Failed}
use Rattle.log_folder.specs.declared.mending.Mended.{Mended}
use Rattle.log_folder.specs.declared.fault.MendFault.{MendFault}
use Rattle.log_folder.specs.declared.fault.MendFault.TheVariants.{Io, Refused}
use Rattle.log_folder.specs.Deeds.{Deed, Failed as Broken, Found, IsFollowed, all_done}
use Rattle.log_folder.specs.Plans.{place_in, damage_in, cutting}

-- the log in a file of these bytes opens its node, with this many calls, whose records end here
pub record IsSound (text : List ℕ) (node : Node) (bytes : List ℕ) (calls whole : ℕ) : Type 0 where
  pub served : Serving
  pub opened : IsOpened text node (part_in bytes).rest (part_in bytes).log whole served
  pub counted : calls ≡ served.calls

-- the log in a file of these bytes is refused, for a damage at this place
pub record IsDamaged (text : List ℕ) (node : Node) (bytes : List ℕ) (place : ℕ) (why : ServiceFault) : Type 0 where
  pub refused : IsRefused text node (part_in bytes).rest (part_in bytes).log why
  pub damage : damage_in why ≡ Some place

abbrev pub IsInCondition : List ℕ → Node → List ℕ → Condition → Type 0
IsInCondition text node bytes (Sound calls whole) = IsSound text node bytes calls whole
IsInCondition text node bytes (Damaged place why) = IsDamaged text node bytes place why

-- the place of a damage
abbrev pub damage_of : Condition → Option ℕ
damage_of (Sound calls whole) = None
damage_of (Damaged place why) = Some place

-- nothing was done where no place was typed, or another one than that of the damage; else the file is cut off there
abbrev pub IsCutOff : Condition → Option ℕ → List ℕ → CutOff → List Deed → List Deed → Type 0
IsCutOff condition typed bytes NotAsked old new = (typed ≡ None) × (new ≡ old)
IsCutOff condition typed bytes Elsewhere old new = ((damage_of condition ≡ typed → ⊥)) × (new ≡ old)
IsCutOff condition typed bytes Done old new = (place : ℕ) × ((damage_of condition ≡ Some place) × ((typed ≡ Some place) × (new ≡ all_done (cutting (place_in bytes place)) old)))
IsCutOff condition typed bytes (Failed error) old new = (place : ℕ) × ((damage_of condition ≡ Some place) × ((typed ≡ Some place) × IsFollowed (cutting (place_in bytes place)) old new))

-- what is told of a log is so, and what was cut off is what it says
pub record IsMended (text : List ℕ) (node : Node) (typed : Option ℕ) (mended : Mended) (old new : List Deed) : Type 0 where
  pub found : IsInCondition text node mended.bytes.items mended.condition
  pub cut : IsCutOff mended.condition typed mended.bytes.items mended.cut (Found mended.bytes.items ∷ old) new

-- why nothing is told of the log in a file of these bytes is so: it is refused, and not for a damage
abbrev pub IsUntold : List ℕ → Node → List ℕ → MendFault → Type 0
IsUntold text node bytes (Io error) = ⊥
IsUntold text node bytes (Refused why) = IsRefused text node (part_in bytes).rest (part_in bytes).log why × (damage_in why ≡ None)

-- the same of a log that was to be mended: its file could not be read, or was, and nothing else was done
abbrev pub IsUnmended : List ℕ → Node → MendFault → List Deed → List Deed → Type 0
IsUnmended text node (Io error) old new = new ≡ Broken ∷ old
IsUnmended text node (Refused why) old new = (bytes : List ℕ) × ((new ≡ Found bytes ∷ old) × IsUntold text node bytes (Refused why))
