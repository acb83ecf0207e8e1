use Rattle.std.proofs.Common.{◌≡◌, map, take}
use Rattle.node_log.specs.LogSeen.{logs_seen}
use Rattle.days_audit.specs.Orders.{line_seen}
use Rattle.days_audit.proofs.order.Order.new.Given as goal

abbrev pub invariant-loop-log : goal.invariant-loop-log
invariant-loop-log l = map line_seen l.lines.items ≡ logs_seen (take l.log-index l.logs)
