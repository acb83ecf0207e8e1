use Rattle.std.proofs.Common.{◌≡◌, length}
use Rattle.run_merge.specs.Orders.{order_seen}
use Rattle.run_merge.proofs.order.Order.turn.Given as goal

abbrev pub invariant-loop-place : goal.invariant-loop-place
invariant-loop-place l = order_seen l.self ≡ order_seen l.initial.self

abbrev pub decreases-loop-place : goal.decreases-loop-place
decreases-loop-place l = length l.self.woken.awake.items
