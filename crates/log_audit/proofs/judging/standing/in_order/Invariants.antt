use Rattle.std.specs.BTreeMap.{get}
use Rattle.std.specs.Ordering.{nat_cmp}
use Rattle.log_audit.proofs.Ends.{IsTaken}
use Rattle.log_audit.proofs.judging.standing.in_order.Given as goal

abbrev pub invariant-loop-place : goal.invariant-loop-place
invariant-loop-place g l = IsTaken (get nat_cmp l.fn.nodes) (get nat_cmp l.nodes) l.place l.list.items
