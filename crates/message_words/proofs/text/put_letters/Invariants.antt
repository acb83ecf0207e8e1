use Rattle.std.proofs.Common.{◌≡◌, ◌++◌, take}
use Rattle.message_words.specs.Encoded.{json_letters}
use Rattle.message_words.proofs.text.put_letters.Given as goal

-- the letters so far
abbrev pub invariant-loop-byte : goal.invariant-loop-byte
invariant-loop-byte l = l.out.items ≡ l.fn.out.items ++ json_letters (take l.byte-index l.text)
