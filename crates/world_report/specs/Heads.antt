-- The lines that name a node, and the lines of events.
use Rattle.std.specs.Prelude.{ℕ, zero, suc, ◌+◌, Bool, cond, List, [], ◌∷◌, map, codes, decimal}
use Rattle.world_report.specs.Words.{Line}

abbrev pub power_word : Bool → List ℕ
power_word up = cond up (codes "up") (codes "down")

-- a node: its kind and number, whether it is up, and how many entries or rows it has
abbrev pub head_line : List ℕ → ℕ → Bool → List ℕ → ℕ → Line
head_line kind number up noun count = kind ∷ decimal number ∷ power_word up ∷ noun ∷ decimal count ∷ []

-- this many numbers from one on
abbrev pub numbers_from : ℕ → ℕ → List ℕ
numbers_from first zero = []
numbers_from first (suc more) = first ∷ numbers_from (first + 1) more

-- an event that was made: its number, and the numbers of the packets that it sent
abbrev pub done_line : ℕ → List ℕ → Line
done_line event packets = decimal event ∷ codes "ok" ∷ map decimal packets

-- an event that was refused: its number, and the refusal's name
abbrev pub refused_line : ℕ → List ℕ → Line
refused_line event name = decimal event ∷ codes "refused" ∷ name ∷ []
