use Rattle.run_merge.specs.Naming.{calls_of}
use Rattle.run_merge.specs.Order.{calls_left}
use Rattle.run_merge.specs.Line.{IsMadeByEvents}
use Rattle.run_merge.specs.LineSeen.{lines_seen}
use Rattle.node_log.specs.LogSeen.{logs_seen}
use Rattle.run_merge.specs.Orders.{order_seen}
use Rattle.run_merge.proofs.order.in_order.Given as goal

abbrev pub invariant-loop-order : goal.invariant-loop-order
invariant-loop-order l = IsMadeByEvents (calls_of (logs_seen l.logs)) (order_seen l.order)

abbrev pub decreases-loop-order : goal.decreases-loop-order
decreases-loop-order l = calls_left (lines_seen l.order.lines.items)
