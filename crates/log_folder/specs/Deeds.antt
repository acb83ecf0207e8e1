-- What was asked of the folder in which a log stands, the newest first, and what it comes to. Plans of it are followed as those of files that are replaced.
use Rattle.std.specs.Prelude.{ℕ, Bool, true, false, not, List}
pub use Rattle.replaced_files.specs.Steps.{Plan, IsFollowed, all_done, newest}

-- one call of the system, and whether it was done. A call that failed may have been done in part, or in the system's memory alone
pub data Deed : Type 0 where
  -- a call that only looks or asks failed, so nothing came of it
  Failed : Deed
  -- it was looked whether the mark of a failed sync stands beside the log
  Marked : (stands : Bool) → Deed
  -- the file of the log was opened, or made
  Opened : (done : Bool) → Deed
  -- the lock of the file was asked for
  Locked : (got : Bool) → Deed
  -- it was looked whether the log's name is still that of the file
  Named : (still : Bool) → Deed
  -- all bytes of the file were read
  Found : (bytes : List ℕ) → Deed
  -- a file of these bytes was made beside the log, under the name of the next one, and is on the disk
  MadeNext : (bytes : List ℕ) → (done : Bool) → Deed
  -- what stands after this many bytes was kept in a file beside the log, which is on the disk with its name
  KeptEnd : (size : ℕ) → (done : Bool) → Deed
  -- the file was cut after this many bytes
  Cut : (size : ℕ) → (done : Bool) → Deed
  Append : (bytes : List ℕ) → (done : Bool) → Deed
  -- the file was had on the disk as it is
  Sync : (done : Bool) → Deed
  -- the file got a second name, that of a log that was closed with this many calls
  Linked : (calls : ℕ) → (done : Bool) → Deed
  -- the names of the folder were had on the disk as they are
  SyncNames : (done : Bool) → Deed
  -- the next file got the log's name
  Exchanged : (done : Bool) → Deed

-- it was asked for, and not done
abbrev pub is_failed : Deed → Bool
is_failed Failed = true
is_failed (Marked stands) = false
is_failed (Opened done) = not done
is_failed (Locked got) = false
is_failed (Named still) = false
is_failed (Found bytes) = false
is_failed (MadeNext bytes done) = not done
is_failed (KeptEnd size done) = not done
is_failed (Cut size done) = not done
is_failed (Append bytes done) = not done
is_failed (Sync done) = not done
is_failed (Linked calls done) = not done
is_failed (SyncNames done) = not done
is_failed (Exchanged done) = not done
