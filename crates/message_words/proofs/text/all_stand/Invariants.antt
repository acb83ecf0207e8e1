use Rattle.std.proofs.Common.{◌≡◌, take}
use Rattle.std.specs.List.{list_all}
use Rattle.input_text.specs.Printing.{stands_for_itself}
use Rattle.message_words.proofs.text.all_stand.Given as goal

-- the bytes so far
abbrev pub invariant-loop-byte : goal.invariant-loop-byte
invariant-loop-byte l = l.plain ≡ list_all stands_for_itself (take l.byte-index l.bytes)
