-- Lists that are numbered from 1: nodes, packets, the entries of a journal.
use Rattle.std.specs.Prelude.{ℕ, zero, suc, List, Option, None, slice_get, slice_set}

-- the element of a number
abbrev pub numbered : {A : Type 0} → List A → ℕ → Option A
numbered xs zero = None
numbered xs (suc k) = slice_get xs k

-- the list with another element at a number
abbrev pub renumbered : {A : Type 0} → List A → ℕ → A → List A
renumbered xs zero a = xs
renumbered xs (suc k) a = slice_set xs k a
