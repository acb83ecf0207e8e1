-- The number that bytes spell.
use Rattle.std.specs.Prelude.{ℕ, ◌+◌, ◌*◌, ◌%◌, ◌^◌, List, [], ◌∷◌}

-- the number that bytes spell after another one, their high byte first; of more than eight bytes the last eight count
abbrev pub number_behind : ℕ → List ℕ → ℕ
number_behind number [] = number
number_behind number (b ∷ bs) = number_behind ((number * 256 % 2 ^ 64 + b) % 2 ^ 64) bs

unfoldable pub number_in : List ℕ → ℕ
number_in bytes = number_behind 0 bytes
