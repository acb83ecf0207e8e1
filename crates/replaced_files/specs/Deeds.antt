-- What was asked of files, the newest first.
use Rattle.std.specs.Prelude.{ℕ, Bool, false, not, ◌&&◌, ◌==◌, List}

-- one call of the system for the file at a place, and whether it was done. A call that failed may have been done in part, or in the system's memory alone
pub data Deed : Type 0 where
  -- the file could not be opened, or its lock not be asked for
  Failed : (place : ℕ) → Deed
  -- its lock was asked for
  Taken : (place : ℕ) → (got : Bool) → Deed
  -- a file of these bytes was made beside it, and is on the disk
  Copied : (place : ℕ) → (bytes : List ℕ) → (done : Bool) → Deed
  -- its name was given to the file beside it
  Exchanged : (place : ℕ) → (done : Bool) → Deed
  -- the names of its folder were had on the disk as they are
  SyncedNames : (place : ℕ) → (done : Bool) → Deed

-- it was asked for the file at this place, and not done
abbrev pub fails_at : ℕ → Deed → Bool
fails_at place (Failed other) = other == place
fails_at place (Taken other got) = false
fails_at place (Copied other bytes done) = (other == place) && not done
fails_at place (Exchanged other done) = (other == place) && not done
fails_at place (SyncedNames other done) = (other == place) && not done
