use Rattle.std.proofs.Common.{◌≡◌, ◌≤◌, ◌-◌, length}
use Rattle.message_words.specs.Spelled.{hex_at, hex_spelled, spelled_behind}
use Rattle.message_words.proofs.spelling.hex_bytes.Given as goal

-- the bytes so far, and then those that are left, are those of the line
abbrev pub invariant-loop-place : goal.invariant-loop-place
invariant-loop-place l = record {
  within : l.place ≤ length l.line;
  spelled : spelled_behind l.bytes.items (hex_at l.place l.line) ≡ hex_spelled l.line;
}

abbrev pub decreases-loop-place : goal.decreases-loop-place
decreases-loop-place l = length l.line - l.place
