-- What stands before the log in its file, as it was read.
use Rattle.std.specs.Prelude.{◌≡◌, ℕ, zero, suc, ◌==◌, Bool, true, false, cond, List, [], ◌∷◌, ◌++◌, length, map, slice_index, Option, Some, None}
use Rattle.std.specs.Option.{option_map}
use Rattle.call_notes.specs.Notes.{Note}
use Rattle.log_turning.specs.Files.{size_in}
use Rattle.log_folder.specs.declared.front.Front.{Front}

-- one call of the system on a file that is read
pub data Reading : Type 0 where
  Unread : Reading
  -- it was gone to the beginning
  Rewound : (done : Bool) → Reading
  -- these bytes were read on, of at most so many
  Read : (most : ℕ) → (bytes : List ℕ) → Reading

-- the bytes of the file from its beginning to the place where it is read on
abbrev pub read_so_far : List Reading → List ℕ
read_so_far [] = []
read_so_far (Unread ∷ before) = read_so_far before
read_so_far (Rewound done ∷ before) = cond done [] (read_so_far before)
read_so_far (Read most bytes ∷ before) = read_so_far before ++ bytes

-- how many bytes are read to know whether a rest stands in a file
abbrev pub head_most : ℕ
head_most = 11

-- the first bytes of a file, from its beginning on, say no rest: then none stands before the log, and it was gone to the beginning again. Or they say how many bytes the
-- rest has: then it is what was read next, so many bytes or as many as there are
abbrev pub StandsBefore : Option ℕ → List ℕ → List Reading → Front → List Reading → Type 0
StandsBefore None head before front reads = (reads ≡ Rewound true ∷ (Read head_most head ∷ (Rewound true ∷ before))) × (front.rest ≡ None)
StandsBefore (Some size) head before front reads = (rest : List ℕ) × ((reads ≡ Read size rest ∷ (Read head_most head ∷ (Rewound true ∷ before))) × (option_map (λ v. v.items) front.rest ≡ Some rest))

-- what stands before the log is what was read, and the file is left behind it
pub record IsFront (front : Front) (reads : List Reading) : Type 0 where
  pub head : List ℕ
  pub before : List Reading
  pub stands : StandsBefore (size_in head) head before front reads
  pub place : front.size ≡ length (read_so_far reads)

-- the call that was made last failed
abbrev pub HasFailed : List Reading → Type 0
HasFailed [] = ⊥
HasFailed (Unread ∷ before) = Unit {0}
HasFailed (Rewound done ∷ before) = done ≡ false
HasFailed (Read most bytes ∷ before) = ⊥

-- ---- calls as they are noted: a kind, whether it was done, how many bytes were wanted, and bytes

abbrev pub reading_of_kind : ℕ → Bool → ℕ → List ℕ → Reading
reading_of_kind zero done most bytes = Unread
reading_of_kind (suc zero) done most bytes = Rewound done
reading_of_kind (suc (suc kind)) done most bytes = Read most bytes

abbrev pub reading_of : Note → Reading
reading_of note = reading_of_kind (slice_index note.0 0) (slice_index note.0 1 == 1) (slice_index note.0 2) note.1

abbrev pub reads_of : List Note → List Reading
reads_of notes = map reading_of notes
