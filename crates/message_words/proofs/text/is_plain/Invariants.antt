use Rattle.std.proofs.Common.{◌≡◌, take}
use Rattle.std.specs.List.{list_all}
use Rattle.message_words.specs.Encoded.{is_letter}
use Rattle.message_words.proofs.text.is_plain.Given as goal

-- the bytes so far
abbrev pub invariant-loop-byte : goal.invariant-loop-byte
invariant-loop-byte l = l.plain ≡ list_all is_letter (take l.byte-index l.bytes)
