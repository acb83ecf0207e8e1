-- A new file that is written once.
use Rattle.std.specs.Prelude.{◌≡◌, ◌∷◌, ℕ, true, false, List, []}
use Rattle.log_folder.specs.declared.fault.WriteFault.{WriteFault}
use Rattle.log_folder.specs.declared.fault.WriteFault.TheVariants.{Unmade, Io}
use Rattle.log_folder.specs.Deeds.{Deed, Plan, Opened, Append, Sync, SyncNames, is_failed, newest}

-- a file of these bytes is made, and is on the disk with its name then
abbrev pub written : List ℕ → Plan Deed
written bytes = Opened ∷ Append bytes ∷ Sync ∷ SyncNames ∷ []

-- why it is not written is so: it could not be made, and nothing else was done; or a later call of the system failed
abbrev pub IsUnwritten : WriteFault → List Deed → List Deed → Type 0
IsUnwritten (Unmade error) old new = new ≡ Opened false ∷ old
IsUnwritten (Io error) old new = newest is_failed new ≡ true
