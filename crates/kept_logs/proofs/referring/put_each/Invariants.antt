use Rattle.std.proofs.Common.{drop}
use Rattle.codec.proofs.Loops.{Puts}
use Rattle.kept_logs.specs.Rests.{reference_codec}
use Rattle.kept_logs.proofs.referring.put_each.Given as goal

abbrev pub invariant-loop-one : goal.invariant-loop-one
invariant-loop-one l = Puts reference_codec l.fn.out.items l.out.items l.references (drop l.one-index l.references)
