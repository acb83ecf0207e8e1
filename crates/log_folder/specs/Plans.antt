-- In which order a log is taken, closed and cut.
use Rattle.std.specs.Prelude.{◌≡◌, ◌⊎◌, ⊤, ℕ, Bool, true, false, not, ◌-◌, ◌<◌, ◌==◌, cond, List, [], ◌∷◌, ◌++◌, length, Option, Some, None}
use Rattle.kept_logs.specs.declared.fault.LogFault.{LogFault}
use Rattle.kept_logs.specs.declared.fault.LogFault.TheVariants.{OutOfMemory, Short, NotALog, Version, DamagedHead, NoNode, OtherSettings, Damaged, BadRecord}
use Rattle.node_service.specs.declared.fault.ServiceFault.{ServiceFault}
use Rattle.node_service.specs.declared.fault.ServiceFault.TheVariants as service
use Rattle.log_turning.specs.Files.{file_text, part_in}
use Rattle.log_turning.specs.declared.turning.Turned.{Turned}
use Rattle.claim_model.specs.Node.{Node}
use Rattle.log_turning.specs.Turned.{IsTurned}
use Rattle.log_turning.specs.declared.fault.TurnFault.{TurnFault}
use Rattle.log_turning.specs.declared.fault.TurnFault.TheVariants as turn
use Rattle.log_folder.specs.declared.closing.Closing.{Closing}
use Rattle.log_folder.specs.declared.closing.Closing.TheVariants.{Done, Small}
use Rattle.log_folder.specs.declared.fault.CloseFault.{CloseFault}
use Rattle.log_folder.specs.declared.fault.CloseFault.TheVariants as unclosed
use Rattle.log_folder.specs.declared.fault.TakeFault.{TakeFault}
use Rattle.log_folder.specs.declared.fault.TakeFault.TheVariants.{Io, Unopened, SyncFailed, Busy}
use Rattle.log_folder.specs.Deeds.{Deed, Plan, IsFollowed, all_done, newest, is_failed, Failed, Marked, Opened, Locked, Named, Found, MadeNext, KeptEnd, Cut, Append, Sync, Linked, SyncNames, Exchanged}

-- ---- taking

-- the file is this process's own: its lock was got, and it had its name still after that, so no log that was closed meanwhile is taken
abbrev pub locked : List Deed → List Deed
locked before = Named true ∷ Locked true ∷ before

-- a log is taken to be served: no sync of it failed, and its name is on the disk, whoever made it
abbrev pub taken_to_serve : List Deed → List Deed
taken_to_serve before = locked (SyncNames true ∷ Opened true ∷ Marked false ∷ before)

-- a log that is there is taken to be closed: no sync of it failed
abbrev pub taken_to_close : List Deed → List Deed
taken_to_close before = locked (Opened true ∷ Marked false ∷ before)

-- a log that is there is taken to be mended
abbrev pub taken_to_mend : List Deed → List Deed
taken_to_mend before = locked (Opened true ∷ before)

-- the mark of a failed sync was found
abbrev pub is_mark : Deed → Bool
is_mark Failed = false
is_mark (Marked b) = b
is_mark (Opened b) = false
is_mark (Locked b) = false
is_mark (Named b) = false
is_mark (Found bytes) = false
is_mark (MadeNext bytes b) = false
is_mark (KeptEnd n b) = false
is_mark (Cut n b) = false
is_mark (Append bytes b) = false
is_mark (Sync b) = false
is_mark (Linked n b) = false
is_mark (SyncNames b) = false
is_mark (Exchanged b) = false

-- the lock was refused, or the name was found to be another file's
abbrev pub is_other : Deed → Bool
is_other Failed = false
is_other (Marked b) = false
is_other (Opened b) = false
is_other (Locked b) = not b
is_other (Named b) = not b
is_other (Found bytes) = false
is_other (MadeNext bytes b) = false
is_other (KeptEnd n b) = false
is_other (Cut n b) = false
is_other (Append bytes b) = false
is_other (Sync b) = false
is_other (Linked n b) = false
is_other (SyncNames b) = false
is_other (Exchanged b) = false

-- why a log is not taken is so: a call of the system failed; its mark stands; its lock was refused, or it has lost its name
abbrev pub IsUntaken : TakeFault → List Deed → Type 0
IsUntaken (Io error) deeds = newest is_failed deeds ≡ true
IsUntaken (Unopened error) deeds = newest is_failed deeds ≡ true
IsUntaken SyncFailed deeds = newest is_mark deeds ≡ true
IsUntaken Busy deeds = newest is_other deeds ≡ true

-- ---- closing

-- where in the file of these bytes a place of its log is
abbrev pub place_in : List ℕ → ℕ → ℕ
place_in bytes place = length bytes - (length (part_in bytes).log - place)

-- what stands after a place is kept beside the log, and cut off
abbrev pub cut_at : ℕ → Plan Deed
cut_at place = KeptEnd place ∷ Cut place ∷ []

-- a record that was cut off goes; where there is none, nothing
abbrev pub trimmed : List ℕ → Turned → Plan Deed
trimmed bytes turned = cond (turned.kept == length (part_in bytes).log) [] (cut_at (place_in bytes turned.kept))

-- the closed log is on the disk, and has its own name there
abbrev pub closed : Turned → Plan Deed
closed turned = Append turned.closing.items ∷ Sync ∷ Linked turned.calls ∷ SyncNames ∷ []

-- the new log gets the name of the log
abbrev pub exchanged : Plan Deed
exchanged = Exchanged ∷ SyncNames ∷ []

-- a log is closed whose file has these bytes: the next one is on the disk before anything else is done, and gets the name once the closed one has its own
abbrev pub closing_plan : List ℕ → Turned → Plan Deed
closing_plan bytes turned = MadeNext (file_text turned.rest.items turned.log.items) ∷ (trimmed bytes turned ++ (closed turned ++ exchanged))

-- a log whose file had these bytes is closed, or was begun to be: nothing was done yet; or its node was served from it, and the plan was followed so far
abbrev pub IsClosing : List ℕ → Node → List ℕ → List Deed → List Deed → Type 0
IsClosing text node bytes old new =
    (new ≡ old) ⊎ ((turned : Turned) × (IsTurned text node (part_in bytes).rest (part_in bytes).log turned × IsFollowed (closing_plan bytes turned) old new))

-- it was closed with this many calls
pub record IsClosed (text : List ℕ) (node : Node) (bytes : List ℕ) (calls : ℕ) (old new : List Deed) : Type 0 where
  pub turned : Turned
  pub is : IsTurned text node (part_in bytes).rest (part_in bytes).log turned
  pub all : new ≡ all_done (closing_plan bytes turned) old
  pub counted : calls ≡ turned.calls

-- it was closed, or stays as it is, since it has fewer bytes than these
abbrev pub IsAnswered : List ℕ → Node → ℕ → List ℕ → Closing → List Deed → List Deed → Type 0
IsAnswered text node least bytes (Done calls) old new = IsClosed text node bytes calls old new
IsAnswered text node least bytes (Small size) old new = (new ≡ old) × ((size ≡ length bytes) × (size < least))

-- a call of the system failed, and nothing was done after it
abbrev pub IsBroken : CloseFault → List Deed → Type 0
IsBroken unclosed.OutOfMemory deeds = ⊥
IsBroken (unclosed.Io error) deeds = newest is_failed deeds ≡ true
IsBroken (unclosed.Unlinked calls error) deeds = newest is_failed deeds ≡ true
IsBroken (unclosed.Refused why) deeds = ⊥
IsBroken unclosed.NoRecord deeds = ⊥

-- why a log whose file was read is not closed is so: a call of the system failed; or nothing was done, since its node is not served from it
abbrev pub IsUnclosed : CloseFault → List Deed → List Deed → Type 0
IsUnclosed unclosed.OutOfMemory old new = ⊤
IsUnclosed (unclosed.Io error) old new = newest is_failed new ≡ true
IsUnclosed (unclosed.Unlinked calls error) old new = newest is_failed new ≡ true
IsUnclosed (unclosed.Refused why) old new = new ≡ old
IsUnclosed unclosed.NoRecord old new = new ≡ old

-- a log that does not turn over is not closed for the same reason
abbrev pub unturned : TurnFault → CloseFault
unturned turn.OutOfMemory = unclosed.OutOfMemory
unturned (turn.Refused why) = unclosed.Refused why
unturned turn.NoRecord = unclosed.NoRecord

-- what the file had was read, and from there on it is so; or it could not be read
abbrev pub OnceRead : List Deed → List Deed → (List ℕ → List Deed → Type 0) → Type 0
OnceRead old new is = (new ≡ Failed ∷ old) ⊎ ((bytes : List ℕ) × is bytes (Found bytes ∷ old))

-- ---- mending

-- the place of a damage; none of another fault
abbrev pub log_damage : LogFault → Option ℕ
log_damage OutOfMemory = None
log_damage Short = None
log_damage NotALog = None
log_damage Version = None
log_damage DamagedHead = None
log_damage NoNode = None
log_damage OtherSettings = None
log_damage (Damaged place) = Some place
log_damage (BadRecord place) = Some place

abbrev pub damage_in : ServiceFault → Option ℕ
damage_in service.OutOfMemory = None
damage_in service.Settings = None
damage_in service.NoSuchNode = None
damage_in service.Rest = None
damage_in (service.Log fault) = log_damage fault
damage_in service.OtherNode = None
damage_in (service.NotMade place) = Some place

-- a log is cut at a place of its file, and is on the disk then
abbrev pub cutting : ℕ → Plan Deed
cutting place = cut_at place ++ (Sync ∷ SyncNames ∷ [])
