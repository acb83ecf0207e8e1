use Rattle.std.proofs.Common.{◌≡◌, ◌+◌, ◌-◌, ◌≤◌, length, drop}
use Rattle.message_words.specs.InputLines.{line_length}
use Rattle.message_words.proofs.line_source.line_length.Given as goal

-- the bytes that were passed are no newlines
abbrev pub invariant-loop-place : goal.invariant-loop-place
invariant-loop-place l = record { passed : line_length l.bytes ≡ l.place + line_length (drop l.place l.bytes); within : l.place ≤ length l.bytes }

abbrev pub decreases-loop-place : goal.decreases-loop-place
decreases-loop-place l = length l.bytes - l.place
