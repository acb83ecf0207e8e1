use Rattle.std.proofs.Common.{◌≡◌, length}
use Rattle.schedule.specs.Faults.{comma_parts}
use Rattle.schedule.specs.Switches.{named_switches}
use Rattle.schedule.proofs.Commas.{before}
use Rattle.schedule.proofs.rules.named_switches.Given as goal

-- the numbers so far, and then those of what is left
abbrev pub invariant-loop-name : goal.invariant-loop-name
invariant-loop-name l = named_switches (comma_parts l.word) ≡ before l.numbers.items (named_switches (comma_parts l.rest))

abbrev pub decreases-loop-name : goal.decreases-loop-name
decreases-loop-name l = length l.rest
