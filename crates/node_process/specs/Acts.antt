-- What the process of a node asked of the system, the newest first, and what it comes to.
use Rattle.std.specs.Prelude.{ℕ, Bool, true, false, not, ◌&&◌, ◌||◌, cond, List, [], ◌∷◌, ◌++◌, take}

-- one call of the system, and whether it was done. A call that failed may have been done in part: what was appended or said counts as done whole
-- where that is the worse
pub data Act : Type 0 where
  -- the bytes of the log were read
  Found : (bytes : List ℕ) → Act
  -- they could not be read
  Unread : Act
  -- the file was cut after this many bytes
  Cut : (size : ℕ) → (done : Bool) → Act
  Append : (bytes : List ℕ) → (done : Bool) → Act
  Sync : (done : Bool) → Act
  -- bytes were written to standard output
  Say : (bytes : List ℕ) → (done : Bool) → Act
  -- bytes came from standard input; none, where it has ended
  Hear : (bytes : List ℕ) → Act
  -- it could not be read
  Unheard : Act

-- the bytes that the log had
abbrev pub found : List Act → List ℕ
found [] = []
found (Found bytes ∷ before) = bytes
found (Unread ∷ before) = found before
found (Cut size done ∷ before) = found before
found (Append bytes done ∷ before) = found before
found (Sync done ∷ before) = found before
found (Say bytes done ∷ before) = found before
found (Hear bytes ∷ before) = found before
found (Unheard ∷ before) = found before

-- the bytes that the file has, in the system's memory or on the disk
abbrev pub file : List Act → List ℕ
file [] = []
file (Found bytes ∷ before) = bytes
file (Unread ∷ before) = file before
file (Cut size done ∷ before) = take size (file before)
file (Append bytes done ∷ before) = file before ++ bytes
file (Sync done ∷ before) = file before
file (Say bytes done ∷ before) = file before
file (Hear bytes ∷ before) = file before
file (Unheard ∷ before) = file before

-- some call failed
abbrev pub has_failed : List Act → Bool
has_failed [] = false
has_failed (Found bytes ∷ before) = has_failed before
has_failed (Unread ∷ before) = true
has_failed (Cut size done ∷ before) = not done || has_failed before
has_failed (Append bytes done ∷ before) = not done || has_failed before
has_failed (Sync done ∷ before) = not done || has_failed before
has_failed (Say bytes done ∷ before) = not done || has_failed before
has_failed (Hear bytes ∷ before) = has_failed before
has_failed (Unheard ∷ before) = true

-- the bytes that are on the disk for certain. What was found may be in the system's memory alone, and a sync after a failure is worth nothing
abbrev pub kept : List Act → List ℕ
kept [] = []
kept (Found bytes ∷ before) = []
kept (Unread ∷ before) = kept before
kept (Cut size done ∷ before) = take size (kept before)
kept (Append bytes done ∷ before) = kept before
kept (Sync done ∷ before) = cond (done && not (has_failed before)) (file before) (kept before)
kept (Say bytes done ∷ before) = kept before
kept (Hear bytes ∷ before) = kept before
kept (Unheard ∷ before) = kept before

-- all that was said
abbrev pub said : List Act → List ℕ
said [] = []
said (Found bytes ∷ before) = said before
said (Unread ∷ before) = said before
said (Cut size done ∷ before) = said before
said (Append bytes done ∷ before) = said before
said (Sync done ∷ before) = said before
said (Say bytes done ∷ before) = said before ++ bytes
said (Hear bytes ∷ before) = said before
said (Unheard ∷ before) = said before

-- all that was heard
abbrev pub heard : List Act → List ℕ
heard [] = []
heard (Found bytes ∷ before) = heard before
heard (Unread ∷ before) = heard before
heard (Cut size done ∷ before) = heard before
heard (Append bytes done ∷ before) = heard before
heard (Sync done ∷ before) = heard before
heard (Say bytes done ∷ before) = heard before
heard (Hear bytes ∷ before) = heard before ++ bytes
heard (Unheard ∷ before) = heard before

-- the newest act: bytes that came, of which there are none only where the input ends
abbrev pub heard_last : List Act → List ℕ
heard_last [] = 0 ∷ []
heard_last (Found bytes ∷ before) = 0 ∷ []
heard_last (Unread ∷ before) = 0 ∷ []
heard_last (Cut size done ∷ before) = 0 ∷ []
heard_last (Append bytes done ∷ before) = 0 ∷ []
heard_last (Sync done ∷ before) = 0 ∷ []
heard_last (Say bytes done ∷ before) = 0 ∷ []
heard_last (Hear bytes ∷ before) = bytes
heard_last (Unheard ∷ before) = 0 ∷ []
