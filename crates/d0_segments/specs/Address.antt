-- Places in memory.
use Rattle.std.specs.Prelude.{ℕ, ◌+◌}

-- this many bytes after an address, which is a block of memory and a place in it
abbrev pub beyond : ℕ × ℕ → ℕ → ℕ × ℕ
beyond address bytes = (address.0, address.1 + bytes)
