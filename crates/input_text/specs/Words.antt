-- Words parted by one space.
use Rattle.std.specs.Prelude.{ℕ, ◌+◌, List, Bool, ◌==◌, Option, take, drop, position}
use Rattle.std.specs.Option.{option_map}

-- the byte is a space
abbrev pub is_space : ℕ → Bool
is_space byte = byte == 32

-- the word before the first space and what stands after it, where there is a space
abbrev pub split_word : List ℕ → Option (List ℕ × List ℕ)
split_word line = option_map (λ place. (take place line, drop (place + 1) line)) (position is_space line)
