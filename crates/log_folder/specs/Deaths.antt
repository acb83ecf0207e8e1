-- What a death leaves under the name of a log, at any moment while it is closed.
use Rattle.std.specs.Prelude.{◌≡◌, ◌⊎◌, ℕ, Bool, true, false, ◌==◌, cond, List, [], ◌∷◌, ◌++◌, take, length, Option, Some, None}
use Rattle.node_process.specs.Safe.{IsStartOf}
use Rattle.log_turning.specs.Files.{file_text, part_in}
use Rattle.log_turning.specs.declared.turning.Turned.{Turned}
use Rattle.log_folder.specs.Deeds.{Deed, Failed, Marked, Opened, Locked, Named, Found, MadeNext, KeptEnd, Cut, Append, Sync, Linked, SyncNames, Exchanged}
use Rattle.log_folder.specs.Plans.{place_in}

-- what came of the deeds since a log was read: the bytes that it had; those that its file has, and how many bytes of them are on the disk for certain; the next
-- file, where it is on the disk; the number under which the closed log has a name of its own, in the folder, and on the disk; and whether the next file may have
-- got the name of the log
pub record Left : Type 0 where
  pub found : List ℕ
  pub file : List ℕ
  pub kept : List ℕ
  pub next : Option (List ℕ)
  pub linked : Option ℕ
  pub named : Option ℕ
  pub exchanged : Bool

-- a log was read: nothing of it is on the disk for certain, since who wrote it may have died before a sync
abbrev pub read_left : List ℕ → Left
read_left bytes = record { found = bytes; file = bytes; kept = []; next = None; linked = None; named = None; exchanged = false }

-- what one more deed comes to. A call that failed counts as done in part: what was cut may be there still, and what was appended or exchanged may be there
abbrev pub after_deed : Deed → Left → Left
after_deed Failed l = l
after_deed (Marked stands) l = l
after_deed (Opened done) l = l
after_deed (Locked got) l = l
after_deed (Named still) l = l
after_deed (Found bytes) l = read_left bytes
after_deed (MadeNext bytes done) l = record l { next = cond done (Some bytes) None }
after_deed (KeptEnd size done) l = l
after_deed (Cut size done) l = record l { file = take size l.file; kept = take size l.kept }
after_deed (Append bytes done) l = record l { file = l.file ++ bytes }
after_deed (Sync done) l = record l { kept = cond done l.file l.kept }
after_deed (Linked calls done) l = record l { linked = cond done (Some calls) l.linked }
after_deed (SyncNames done) l = record l { named = cond done l.linked l.named }
after_deed (Exchanged done) l = record l { exchanged = true }

abbrev pub left : List Deed → Left
left [] = read_left []
left (deed ∷ before) = after_deed deed (left before)

-- bytes may stand under the name of the log after a death: what is on the disk for certain of the file that was read, and after that a beginning of what the
-- system had of it, or had when it was read, since what was cut off may be there again; or the next file, where that may have got the name
abbrev pub MayStand : Left → List ℕ → Type 0
MayStand l bytes = (IsStartOf l.kept bytes × (IsStartOf bytes l.file ⊎ IsStartOf bytes l.found)) ⊎ ((l.exchanged ≡ true) × (l.next ≡ Some bytes))

-- the file of the log up to the end of its whole records
abbrev pub whole_file : List ℕ → Turned → List ℕ
whole_file bytes turned = cond (turned.kept == length (part_in bytes).log) bytes (take (place_in bytes turned.kept) bytes)

-- the file of the log, closed
abbrev pub closed_file : List ℕ → Turned → List ℕ
closed_file bytes turned = whole_file bytes turned ++ turned.closing.items

-- the file that the new log has
abbrev pub new_file : Turned → List ℕ
new_file turned = file_text turned.rest.items turned.log.items

-- the log goes on as it was, or as it is closed, and of either there may be a beginning alone
abbrev pub IsOpenStill : List ℕ → Turned → List ℕ → Type 0
IsOpenStill bytes turned standing = IsStartOf standing bytes ⊎ IsStartOf standing (closed_file bytes turned)

-- the new log stands, whole; and the closed one has its own name, and all its bytes, on the disk
abbrev pub IsClosedBehind : List ℕ → Turned → Left → List ℕ → Type 0
IsClosedBehind bytes turned l standing = (standing ≡ new_file turned) × ((l.named ≡ Some turned.calls) × (l.kept ≡ closed_file bytes turned))

-- whatever stands under the name of the log, it is the one or the other
abbrev pub IsOneOrTheOther : List ℕ → Turned → Left → Type 0
IsOneOrTheOther bytes turned l = (standing : List ℕ) → MayStand l standing → IsOpenStill bytes turned standing ⊎ IsClosedBehind bytes turned l standing
