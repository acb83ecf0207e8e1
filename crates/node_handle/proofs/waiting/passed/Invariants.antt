use Rattle.node_handle.proofs.Marks.{IsSoFar}
use Rattle.node_handle.proofs.waiting.passed.Given as goal

abbrev pub invariant-loop-place : goal.invariant-loop-place
invariant-loop-place l = IsSoFar l.kept l.marks l.bytes l.place l.rest
