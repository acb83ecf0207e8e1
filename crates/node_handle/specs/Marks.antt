-- How words that wait are kept: their bytes one after another, and for each call its mark and how many of them are its own.
use Rattle.std.specs.Prelude.{◌≡◌, ℕ, zero, ◌+◌, ◌≤◌, List, [], ◌∷◌, ◌++◌, length, take, drop}
use Rattle.node_handle.specs.declared.waiting.Mark.{Mark}
use Rattle.node_handle.specs.Waiting.{Waiting, all_lowered, told, untold}

-- the words of each mark
abbrev pub pieces : List Mark → List ℕ → List Waiting
pieces [] bytes = []
pieces (m ∷ marks) bytes = record { mark = m.upto; text = take m.size bytes } ∷ pieces marks (drop m.size bytes)

-- how many bytes all marks have
abbrev pub sizes : List Mark → ℕ
sizes [] = zero
sizes (m ∷ marks) = m.size + sizes marks

abbrev pub told_at : ℕ → List Mark → List ℕ → List ℕ
told_at kept marks bytes = told (all_lowered kept (pieces marks bytes))

abbrev pub untold_at : ℕ → List Mark → List ℕ → List Waiting
untold_at kept marks bytes = untold (all_lowered kept (pieces marks bytes))

-- so many marks, the first, are of words that may be told, and these bytes come after them
pub record IsPassed (kept : ℕ) (marks : List Mark) (bytes : List ℕ) (count : ℕ) (rest : List ℕ) : Type 0 where
  pub told : told_at kept marks bytes ++ rest ≡ bytes
  pub untold : untold_at kept marks bytes ≡ all_lowered kept (pieces (drop count marks) rest)
  pub sizes : sizes (drop count marks) ≡ length rest
  pub within : count ≤ length marks
