use Rattle.std.proofs.Common.{◌≡◌, drop}
use Rattle.message_making.specs.Judged.{first_of}
use Rattle.message_making.proofs.judging.first_of.Given as goal

abbrev pub invariant-loop-one : goal.invariant-loop-one
invariant-loop-one l = first_of (drop l.one-index l.found) ≡ first_of l.fn.found
