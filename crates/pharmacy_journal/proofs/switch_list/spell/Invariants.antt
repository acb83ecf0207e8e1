use Rattle.std.proofs.Common.{◌≡◌, ◌++◌, drop}
use Rattle.pharmacy_journal.specs.Ruling.{bytes_of}
use Rattle.pharmacy_journal.proofs.switch_list.spell.Given as goal

-- what was put, and the bytes of what is left, are those of the numbers
abbrev pub invariant-loop-number : goal.invariant-loop-number
invariant-loop-number l = l.bytes.items ++ bytes_of (drop l.number-index l.numbers) ≡ bytes_of l.numbers
