-- What a death leaves under the name of a file, at any moment while files are replaced.
use Rattle.std.specs.Prelude.{◌≡◌, ◌⊎◌, ⊤, ℕ, zero, suc, Bool, true, false, ◌==◌, cond, List, [], ◌∷◌, Option, Some, None}
use Rattle.replaced_files.specs.declared.replacing.Fate.{Fate}
use Rattle.replaced_files.specs.declared.replacing.Fate.TheVariants.{Stays, Stands, Becomes}
use Rattle.replaced_files.specs.Deeds.{Deed, Failed, Taken, Copied, Exchanged, SyncedNames}

-- what came of the deeds for the file at a place: the file beside it, where that is on the disk; whether that may have got its name; whether it did so in the
-- system's memory; and whether it has the name on the disk
pub record Left : Type 0 where
  pub copy : Option (List ℕ)
  pub may_have : Bool
  pub has : Bool
  pub for_good : Bool

-- nothing was done to it
abbrev pub untouched : Left
untouched = record { copy = None; may_have = false; has = false; for_good = false }

-- what one more deed for it comes to. A call that failed counts as done in part: what was exchanged may be
abbrev pub copied : Left → List ℕ → Bool → Left
copied l bytes done = record l { copy = cond done (Some bytes) None }

abbrev pub exchanged : Left → Bool → Left
exchanged l done = record l { may_have = true; has = done }

abbrev pub synced : Left → Bool → Left
synced l done = record l { for_good = cond done l.has l.for_good }

abbrev pub after_deed : ℕ → Deed → Left → Left
after_deed place (Failed other) l = l
after_deed place (Taken other got) l = l
after_deed place (Copied other bytes done) l = cond (other == place) (copied l bytes done) l
after_deed place (Exchanged other done) l = cond (other == place) (exchanged l done) l
after_deed place (SyncedNames other done) l = cond (other == place) (synced l done) l

abbrev pub left : ℕ → List Deed → Left
left place [] = untouched
left place (deed ∷ before) = after_deed place deed (left place before)

-- the new bytes of the file at a place, where it has any
abbrev pub new_bytes_of : Fate → Option (List ℕ)
new_bytes_of Stays = None
new_bytes_of Stands = None
new_bytes_of (Becomes bytes) = Some bytes.items

abbrev pub new_bytes : ℕ → List Fate → Option (List ℕ)
new_bytes place [] = None
new_bytes zero (fate ∷ more) = new_bytes_of fate
new_bytes (suc place) (fate ∷ more) = new_bytes place more

-- where the file beside is not known to be on the disk, it may have any bytes
abbrev pub CopyStands : Option (List ℕ) → List ℕ → Type 0
CopyStands None standing = ⊤
CopyStands (Some bytes) standing = standing ≡ bytes

-- bytes may stand under the name of a file that had those from before: those, unless the file beside has the name on the disk; or that file's, where it may
-- have got the name
abbrev pub MayStand : List ℕ → Left → List ℕ → Type 0
MayStand before l standing = ((l.for_good ≡ false) × (standing ≡ before)) ⊎ ((l.may_have ≡ true) × CopyStands l.copy standing)

-- whatever stands under the name, it is what stood there before, or these bytes, where there are such
abbrev pub IsOldOr : Option (List ℕ) → Left → Type 0
IsOldOr bytes l = (before standing : List ℕ) → MayStand before l standing → (standing ≡ before) ⊎ (bytes ≡ Some standing)
