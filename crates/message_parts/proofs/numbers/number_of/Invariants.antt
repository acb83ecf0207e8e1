use Rattle.std.proofs.Common.{◌≡◌, drop}
use Rattle.message_parts.specs.Numbers.{number_behind}
use Rattle.message_parts.proofs.numbers.number_of.Given as goal

-- what is left, after the number so far, spells the whole
abbrev pub invariant-loop-byte : goal.invariant-loop-byte
invariant-loop-byte l = number_behind l.number (drop l.byte-index l.bytes) ≡ number_behind 0 l.bytes
