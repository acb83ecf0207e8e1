use Rattle.std.proofs.Common.{◌≡◌, ◌++◌, drop}
use Rattle.message_lines.specs.Answers.{hex_text}
use Rattle.message_lines.proofs.telling.put_hex.Given as goal

-- the digits so far, and then those of the bytes that are left
abbrev pub invariant-loop-byte : goal.invariant-loop-byte
invariant-loop-byte l = l.text.items ++ hex_text (drop l.byte-index l.bytes) ≡ l.initial.text.items ++ hex_text l.bytes
