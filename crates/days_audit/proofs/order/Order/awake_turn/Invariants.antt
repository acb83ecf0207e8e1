use Rattle.std.proofs.Common.{◌≡◌, length}
use Rattle.days_audit.specs.Orders.{order_seen}
use Rattle.days_audit.proofs.order.Order.awake_turn.Given as goal

abbrev pub invariant-loop-place : goal.invariant-loop-place
invariant-loop-place l = order_seen l.self ≡ order_seen l.initial.self

abbrev pub decreases-loop-place : goal.decreases-loop-place
decreases-loop-place l = length l.self.woken.awake.items
