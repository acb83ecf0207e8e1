-- Numbers and bytes that stand at the front of bytes; numbers have their high byte first.
use Rattle.std.specs.Prelude.{ℕ, List, [], ◌∷◌, length, take, drop, nat_lt, Option, Some, None, if◌then◌else◌}
use Rattle.std.specs.Int.{w16, w32, w64, from_be_bytes}

-- the first this many bytes, and what follows them; None where there are fewer
unfoldable pub bytes_at : ℕ → List ℕ → Option (List ℕ × List ℕ)
bytes_at count bytes = if nat_lt (length bytes) count then None else Some (take count bytes, drop count bytes)

-- a number of one byte at the front, and what follows it; None where there is no byte
unfoldable pub u8_at : List ℕ → Option (ℕ × List ℕ)
u8_at [] = None
u8_at (number ∷ rest) = Some (number, rest)

-- a number of two, four or eight bytes at the front, and what follows it; None where it is cut off
unfoldable pub u16_at : List ℕ → Option (ℕ × List ℕ)
u16_at bytes = if nat_lt (length bytes) 2 then None else Some (from_be_bytes w16 (take 2 bytes), drop 2 bytes)

unfoldable pub u32_at : List ℕ → Option (ℕ × List ℕ)
u32_at bytes = if nat_lt (length bytes) 4 then None else Some (from_be_bytes w32 (take 4 bytes), drop 4 bytes)

unfoldable pub u64_at : List ℕ → Option (ℕ × List ℕ)
u64_at bytes = if nat_lt (length bytes) 8 then None else Some (from_be_bytes w64 (take 8 bytes), drop 8 bytes)
