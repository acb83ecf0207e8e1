-- Bounded texts, as orders keep them.
use Rattle.std.specs.Prelude.{ℕ, ◌-◌, List, length, replicate}

-- what stands after the bytes of a text in its room
abbrev pub filler : ℕ → List ℕ → List ℕ
filler room bytes = replicate (room - length bytes) 0
