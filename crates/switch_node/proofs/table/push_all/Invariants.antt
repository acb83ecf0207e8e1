use Rattle.std.proofs.Common.{◌≡◌, ◌++◌, map}
use Rattle.switch_node.specs.Ring.{in_flight}
use Rattle.switch_node.proofs.table.push_all.Given as goal

abbrev pub invariant-loop-id : goal.invariant-loop-id
invariant-loop-id l = l.list.items ++ map in_flight l.id-iterator ≡ l.initial.list.items ++ map in_flight l.initial.id-iterator
