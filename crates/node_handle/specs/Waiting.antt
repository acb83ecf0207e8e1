-- The words of a node, call by call: each waits until its records, and those of the calls before it, are on disk.
use Rattle.std.specs.Prelude.{ℕ, ◌-◌, ◌==◌, List, [], ◌∷◌, ◌++◌, map, if◌then◌else◌}

-- the words of a call, and how many bytes of records have yet to be on disk before they may be told: its own, and those of the calls before it
pub record Waiting : Type 0 where
  pub mark : ℕ
  pub text : List ℕ

-- so many bytes more are on disk
abbrev pub lowered : ℕ → Waiting → Waiting
lowered size w = record { mark = w.mark - size; text = w.text }

abbrev pub all_lowered : ℕ → List Waiting → List Waiting
all_lowered size words = map (lowered size) words

-- what may be told: the words of the first calls, up to the first one for which bytes have yet to be on disk
abbrev pub told : List Waiting → List ℕ
told [] = []
told (w ∷ more) = if w.mark == 0 then w.text ++ told more else []

-- what waits behind that
abbrev pub untold : List Waiting → List Waiting
untold [] = []
untold (w ∷ more) = if w.mark == 0 then untold more else w ∷ more
