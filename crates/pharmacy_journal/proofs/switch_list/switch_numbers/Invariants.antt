use Rattle.std.proofs.Common.{◌≡◌, ◌++◌, drop}
use Rattle.pharmacy_journal.specs.Ruling.{numbers_in, pending}
use Rattle.pharmacy_journal.proofs.switch_list.switch_numbers.Given as goal

-- what was read, and the numbers of what is left, are those of the bytes
abbrev pub invariant-loop-byte : goal.invariant-loop-byte
invariant-loop-byte l = l.numbers.items ++ numbers_in (pending l.read (drop l.byte-index l.bytes)) ≡ numbers_in l.bytes
