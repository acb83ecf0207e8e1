-- Records that stand undamaged in the bytes of a log: before a place, and what is still there behind it.
use Rattle.std.specs.Prelude.{◌≡◌, ◌⊎◌, ℕ, zero, suc, ◌+◌, ◌-◌, ◌/◌, ◌<◌, ◌≤◌, List, [], ◌∷◌, length, drop, Option, Some, None}
use Rattle.kept_logs.specs.Frames.{largest, behind_frame, frame_at}
use Rattle.log_folder.specs.declared.undamaged.Run.{Run}

-- what follows the undamaged record of this number that begins bytes of a log of this version, where there is such a record
abbrev pub behind_record : ℕ → ℕ → List ℕ → Option (List ℕ)
behind_record version number bytes = behind_frame (frame_at version number bytes)

abbrev pub and_behind : Option (List ℕ) → (List ℕ → Option (List ℕ)) → Option (List ℕ)
and_behind None more = None
and_behind (Some after) more = more after

-- what follows this many undamaged records of consecutive numbers that stand one after another at the front of bytes, where they do; the first has this number
abbrev pub behind_records : ℕ → ℕ → ℕ → List ℕ → Option (List ℕ)
behind_records version number zero bytes = Some bytes
behind_records version number (suc count) bytes = and_behind (behind_record version number bytes) (λ after. behind_records version (number + 1) count after)

-- ---- before a place

-- how many bytes the head of a log has
abbrev pub head_size : ℕ
head_size = 46

-- this many records stand one after another behind the head of a log, and each begins before this place; no more do: the next one would begin at the place or
-- behind it, or is none
pub record IsCountBefore (version : ℕ) (bytes : List ℕ) (place count : ℕ) : Type 0 where
  pub left : List ℕ
  pub stand : behind_records version 1 count (drop head_size bytes) ≡ Some left
  pub before : (fewer : ℕ) (rest : List ℕ) → fewer < count → behind_records version 1 fewer (drop head_size bytes) ≡ Some rest → length bytes - length rest < place
  pub ends : (place ≤ length bytes - length left) ⊎ (behind_record version (count + 1) left ≡ None)

-- ---- behind a place

-- how many bytes a record has at least
abbrev pub least_record : ℕ
least_record = 25

-- how many records more than there is room for may be lacking between two that stand
abbrev pub lacking : ℕ
lacking = 16

-- the numbers that a record may have where this one is wanted, and this many bytes before it are no undamaged records
abbrev pub InWindow : ℕ → ℕ → ℕ → Type 0
InWindow wanted passed number = (wanted ≤ number) × ((number ≤ wanted + (passed / least_record + lacking)) × (number < largest))

-- no record of such a number begins at this place
abbrev pub NoneAt : ℕ → List ℕ → ℕ → ℕ → ℕ → Type 0
NoneAt version bytes wanted passed at = (number : ℕ) → InWindow wanted passed number → behind_record version number (drop at bytes) ≡ None

-- no such record begins from here up to there
abbrev pub NoneBetween : ℕ → List ℕ → ℕ → ℕ → ℕ → Type 0
NoneBetween version bytes wanted behind to = (at : ℕ) → behind ≤ at → at < to → NoneAt version bytes wanted (at - behind) at

-- the records of a run stand undamaged one after another where it says, and no more of them do
pub record IsRun (version : ℕ) (bytes : List ℕ) (run : Run) : Type 0 where
  pub order : run.first ≤ run.last
  pub number : run.last < largest
  pub some : run.from < run.to
  pub within : run.to ≤ length bytes
  pub stand : behind_records version run.first (suc (run.last - run.first)) (drop run.from bytes) ≡ Some (drop run.to bytes)
  pub all : run.last + 1 < largest → behind_record version (run.last + 1) (drop run.to bytes) ≡ None

-- a run begins at this place, with the first number that a record there may have
pub record BeginsAt (version : ℕ) (bytes : List ℕ) (wanted passed at : ℕ) (run : Run) : Type 0 where
  pub here : run.from ≡ at
  pub window : InWindow wanted passed run.first
  pub first : (number : ℕ) → wanted ≤ number → number < run.first → behind_record version number (drop at bytes) ≡ None
  pub is : IsRun version bytes run

-- it is the first one from this place on, where the record of this number is wanted
pub record IsNext (version : ℕ) (bytes : List ℕ) (wanted behind : ℕ) (run : Run) : Type 0 where
  pub behind_it : behind ≤ run.from
  pub none : NoneBetween version bytes wanted behind run.from
  pub begins : BeginsAt version bytes wanted (run.from - behind) run.from run

-- these are all runs from this place on, where the record of this number is wanted: each is the first one behind the one before it, and behind the last there is none
abbrev pub AreRuns : ℕ → List ℕ → ℕ → ℕ → List Run → Type 0
AreRuns version bytes wanted behind [] = NoneBetween version bytes wanted behind (length bytes)
AreRuns version bytes wanted behind (run ∷ more) = IsNext version bytes wanted behind run × AreRuns version bytes (run.last + 1) run.to more
