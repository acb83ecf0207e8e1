-- What is told of a log that is repaired, line by line, and how the repair ends.
use Rattle.std.specs.Prelude.{◌≡◌, ⊤, ℕ, ◌-◌, ◌+◌, cond, nat_lt, List, [], ◌∷◌, ◌++◌, map, length, Option, Result, Ok, Err}
use Rattle.claim_model.specs.Node.{Node}
use Rattle.node_service.specs.declared.fault.ServiceFault.{ServiceFault}
use Rattle.kept_logs.specs.Digests.{version_in}
use Rattle.log_turning.specs.Files.{part_in}
use Rattle.log_folder.specs.declared.mending.Condition.{Condition}
use Rattle.log_folder.specs.declared.mending.Condition.TheVariants as condition
use Rattle.log_folder.specs.declared.mending.CutOff.{CutOff}
use Rattle.log_folder.specs.declared.mending.CutOff.TheVariants as cut
use Rattle.log_folder.specs.declared.mending.Mended.{Mended}
use Rattle.log_folder.specs.declared.undamaged.Run.{Run}
use Rattle.log_folder.specs.declared.telling.Line.{Line}
use Rattle.log_folder.specs.declared.telling.Line.TheVariants.{Sound, Torn, Before, Damage, NoneUndamaged, Undamaged, Cut}
use Rattle.log_folder.specs.declared.fault.RepairFault.{RepairFault}
use Rattle.log_folder.specs.declared.fault.RepairFault.TheVariants as fault
use Rattle.log_folder.specs.declared.fault.Unrepaired.{Unrepaired}
use Rattle.log_folder.specs.declared.fault.Unrepaired.TheVariants as unrepaired
use Rattle.log_folder.specs.declared.repairing.Repaired.{Repaired}
use Rattle.log_folder.specs.Deeds.{Deed}
use Rattle.log_folder.specs.Mending.{IsMended, IsUnmended}
use Rattle.log_folder.specs.Undamaged.{IsCountBefore, AreRuns}

-- ---- what is told

-- a torn end is told where there is one
abbrev pub torn_line : ℕ → List Line
torn_line torn = cond (nat_lt 0 torn) (Torn torn ∷ []) []

-- a log of this many bytes is sound: how much of it is whole, and then its torn end
abbrev pub sound_lines : ℕ → ℕ → ℕ → List Line
sound_lines calls whole size = Sound calls whole ∷ torn_line (size - whole)

-- each run in its order, or that there is none
abbrev pub run_lines : List Run → List Line
run_lines [] = NoneUndamaged ∷ []
run_lines (run ∷ more) = map Undamaged (run ∷ more)

-- that it was cut is told where that was done
abbrev pub cut_line : ℕ → ℕ → CutOff → List Line
cut_line place calls cut.NotAsked = []
cut_line place calls cut.Elsewhere = []
cut_line place calls cut.Done = Cut place calls ∷ []
cut_line place calls (cut.Failed error) = []

-- a log is damaged: what stands before, what the damage is, what is undamaged behind it, and at last that it was cut
abbrev pub damage_lines : ℕ → ℕ → ServiceFault → ℕ → List Run → CutOff → List Line
damage_lines size calls why place runs cut = Before calls place ∷ Damage why (size - place) ∷ (run_lines runs ++ cut_line place calls cut)

-- what is told of a damage in these bytes of a log is all that stands there
pub record TellsDamage (bytes : List ℕ) (place : ℕ) (why : ServiceFault) (cut : CutOff) (told : List Line) : Type 0 where
  pub calls : ℕ
  pub runs : List Run
  pub before : IsCountBefore (version_in bytes) bytes place calls
  pub behind : AreRuns (version_in bytes) bytes (calls + 1) place runs
  pub lines : told ≡ damage_lines (length bytes) calls why place runs cut

-- what is told of a log in this condition
abbrev pub TellsOf : List ℕ → Condition → CutOff → List Line → Type 0
TellsOf bytes (condition.Sound calls whole) cut told = told ≡ sound_lines calls whole (length bytes)
TellsOf bytes (condition.Damaged place why) cut told = TellsDamage bytes place why cut told

-- ---- how it ends

-- a log that is not damaged ends it well, unless it was to be cut
abbrev pub ends_sound : CutOff → Result (Unit {0}) Unrepaired
ends_sound cut.NotAsked = Ok tt
ends_sound cut.Elsewhere = Err unrepaired.NotDamaged
ends_sound cut.Done = Ok tt
ends_sound (cut.Failed error) = Err (unrepaired.Io error)

-- a damage ends it well where it was cut off
abbrev pub ends_damaged : ℕ → CutOff → Result (Unit {0}) Unrepaired
ends_damaged place cut.NotAsked = Err (unrepaired.Damaged place)
ends_damaged place cut.Elsewhere = Err (unrepaired.OtherPlace place)
ends_damaged place cut.Done = Ok tt
ends_damaged place (cut.Failed error) = Err (unrepaired.Io error)

abbrev pub ends_so : Condition → CutOff → Result (Unit {0}) Unrepaired
ends_so (condition.Sound calls whole) cut = ends_sound cut
ends_so (condition.Damaged place why) cut = ends_damaged place cut

-- the log was mended, what is told is told of how it was found and of what was cut off, and so is the end
pub record IsRepaired (text : List ℕ) (node : Node) (typed : Option ℕ) (repaired : Repaired) (old new : List Deed) : Type 0 where
  pub mended : Mended
  pub is : IsMended text node typed mended old new
  pub told : TellsOf (part_in mended.bytes.items).log mended.condition mended.cut repaired.told.items
  pub ended : repaired.ended ≡ ends_so mended.condition mended.cut

-- why nothing is told is so: the log could not be mended; or memory was refused, whatever was done
abbrev pub IsUnrepaired : List ℕ → Node → RepairFault → List Deed → List Deed → Type 0
IsUnrepaired text node fault.OutOfMemory old new = ⊤
IsUnrepaired text node (fault.Unmended why) old new = IsUnmended text node why old new
