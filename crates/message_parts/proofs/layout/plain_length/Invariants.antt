use Rattle.std.proofs.Common.{◌≡◌, ◌+◌, ◌-◌, ◌≤◌, length, drop}
use Rattle.d0_segments.specs.Separators.{plain_length}
use Rattle.message_parts.proofs.layout.plain_length.Given as goal

-- the bytes that were passed are plain
abbrev pub invariant-loop-place : goal.invariant-loop-place
invariant-loop-place l = record { passed : plain_length l.bytes ≡ l.place + plain_length (drop l.place l.bytes); within : l.place ≤ length l.bytes }

abbrev pub decreases-loop-place : goal.decreases-loop-place
decreases-loop-place l = length l.bytes - l.place
