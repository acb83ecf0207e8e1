use Rattle.std.proofs.Common.{◌≡◌, ◌++◌, drop}
use Rattle.std.specs.List.{flat_map}
use Rattle.node_service.specs.Payments.{word_byte}
use Rattle.node_service.proofs.payment_lines.put_word.Given as goal

-- the bytes so far, and then those that are left
abbrev pub invariant-loop-byte : goal.invariant-loop-byte
invariant-loop-byte l = l.out.items ++ flat_map word_byte (drop l.byte-index l.bytes) ≡ l.initial.out.items ++ flat_map word_byte l.bytes
