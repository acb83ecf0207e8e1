-- What is noted of calls, the newest first.
use Rattle.std.specs.Prelude.{ℕ, Bool, cond, List, [], ◌∷◌, ◌++◌}

-- numbers and bytes, as they are noted of a call
abbrev pub Note : Type 0
Note = List ℕ × List ℕ

-- a call of this kind that was done or not
abbrev pub answered : ℕ → Bool → ℕ → List ℕ → Note
answered kind done size bytes = (kind ∷ cond done 1 0 ∷ size ∷ [], bytes)

-- the bytes of all calls, in order
abbrev pub bytes_in : List Note → List ℕ
bytes_in [] = []
bytes_in (note ∷ before) = bytes_in before ++ note.1
