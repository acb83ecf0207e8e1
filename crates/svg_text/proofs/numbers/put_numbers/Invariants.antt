use Rattle.std.proofs.Common.{◌≡◌, ◌++◌, drop}
use Rattle.std.specs.Prelude.{flat_map}
use Rattle.svg_text.specs.Numbers.{number_text}
use Rattle.svg_text.proofs.numbers.put_numbers.Given as goal

-- the attributes so far, and then those that are left
abbrev pub invariant-loop-number : goal.invariant-loop-number
invariant-loop-number l = l.out.items ++ flat_map number_text (drop l.number-index l.numbers) ≡ l.initial.out.items ++ flat_map number_text l.numbers
