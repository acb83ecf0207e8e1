-- In which order files are taken and replaced.
use Rattle.std.specs.Prelude.{◌≡◌, ℕ, zero, suc, ◌+◌, Bool, true, false, List, [], ◌∷◌, ◌++◌, if◌then◌else◌}
use Rattle.std.specs.List.{list_any}
use Rattle.replaced_files.specs.declared.replacing.Fate.{Fate}
use Rattle.replaced_files.specs.declared.replacing.Fate.TheVariants.{Stays, Stands, Becomes}
use Rattle.replaced_files.specs.declared.fault.TakeFault.{TakeFault}
use Rattle.replaced_files.specs.declared.fault.TakeFault.TheVariants as untaken
use Rattle.replaced_files.specs.declared.fault.ReplaceFault.{ReplaceFault}
use Rattle.replaced_files.specs.declared.fault.ReplaceFault.TheVariants as unreplaced
use Rattle.replaced_files.specs.Steps.{Plan, newest}
use Rattle.replaced_files.specs.Deeds.{Deed, fails_at, Failed, Taken, Copied, Exchanged, SyncedNames}

-- ---- taking

-- this many files are taken, the first first
abbrev pub all_taken : ℕ → List Deed → List Deed
all_taken zero before = before
all_taken (suc n) before = Taken n true ∷ all_taken n before

-- why files are not taken is so: those before were taken, and this one could not be, or another process has it
abbrev pub IsUntaken : TakeFault → List Deed → List Deed → Type 0
IsUntaken (untaken.Io place error) old new = new ≡ Failed place ∷ all_taken place old
IsUntaken (untaken.Busy place) old new = new ≡ Taken place false ∷ all_taken place old

-- ---- replacing

-- a file cannot be what all are to become
abbrev pub stays : Fate → Bool
stays Stays = true
stays Stands = false
stays (Becomes bytes) = false

-- the file at a place gets new bytes: they are on the disk before they have its name, and the name is before anything else is done
abbrev pub exchanging : ℕ → List ℕ → Plan Deed
exchanging place bytes = Copied place bytes ∷ Exchanged place ∷ SyncedNames place ∷ []

abbrev pub plan_at : ℕ → Fate → Plan Deed
plan_at place Stays = []
plan_at place Stands = []
plan_at place (Becomes bytes) = exchanging place bytes.items

-- files from a place on, one after the other
abbrev pub plan_from : ℕ → List Fate → Plan Deed
plan_from place [] = []
plan_from place (fate ∷ more) = plan_at place fate ++ plan_from (place + 1) more

-- all of them, where none stays; else nothing is done
abbrev pub replacing_plan : List Fate → Plan Deed
replacing_plan fates = if list_any stays fates then [] else plan_from 0 fates

-- why files are not replaced is so: one of them stays, and nothing was done; or none does, and a call of the system failed for this one
abbrev pub IsUnreplaced : List Fate → ReplaceFault → List Deed → List Deed → Type 0
IsUnreplaced fates unreplaced.SomeStay old new = (list_any stays fates ≡ true) × (new ≡ old)
IsUnreplaced fates (unreplaced.Io place error) old new = (list_any stays fates ≡ false) × (newest (fails_at place) new ≡ true)
