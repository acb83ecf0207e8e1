use Rattle.std.proofs.Common.{drop}
use Rattle.codec.specs.Codecs.{u16}
use Rattle.codec.proofs.Loops.{Puts}
use Rattle.codec.proofs.lists.put_each.Given as goal

abbrev pub invariant-loop-number : goal.invariant-loop-number
invariant-loop-number l = Puts u16 l.fn.out.items l.out.items l.numbers (drop l.number-index l.numbers)
