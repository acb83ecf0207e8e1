-- Bytes of one owner, and the ends of bytes that several own.
use Rattle.std.specs.Prelude.{◌≤◌, ℕ, List, length, drop}
use Rattle.std.specs.Arc.{arc_value}
use Rattle.octets.specs.declared.held.Held.{Held}
use Rattle.octets.specs.declared.held.Held.TheVariants.{Alone, Shared}

-- the bytes
abbrev pub bytes_in : Held → List ℕ
bytes_in (Alone bytes) = bytes.items
bytes_in (Shared bytes start) = drop start (arc_value bytes).items

-- an end begins within its bytes
abbrev pub IsHeld : Held → Type 0
IsHeld (Alone bytes) = Unit {0}
IsHeld (Shared bytes start) = start ≤ length (arc_value bytes).items
