use Rattle.std.proofs.Common.{map}
use Rattle.claim_model.specs.Bytes.{bytes_with}
use Rattle.node_log.specs.LogSeen.{logs_seen}
use Rattle.run_merge.specs.Order.{calls_left}
use Rattle.days_audit.specs.Orders.{line_seen, order_seen}
use Rattle.days_audit.proofs.Ordering.{IsMadeBy}
use Rattle.days_audit.proofs.order.in_order.Given as goal

abbrev pub invariant-loop-order : goal.invariant-loop-order
invariant-loop-order l = IsMadeBy (bytes_with l.routes) l.fn.live (logs_seen l.logs) (order_seen l.order)

abbrev pub decreases-loop-order : goal.decreases-loop-order
decreases-loop-order l = calls_left (map line_seen l.order.lines.items)
