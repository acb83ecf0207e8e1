use Rattle.std.proofs.Common.{◌≡◌, take}
use Rattle.run_merge.specs.LineSeen.{lines_seen}
use Rattle.node_log.specs.LogSeen.{logs_seen}
use Rattle.run_merge.proofs.order.Order.new.Given as goal

abbrev pub invariant-loop-log : goal.invariant-loop-log
invariant-loop-log l = lines_seen l.lines.items ≡ logs_seen (take l.log-index l.logs)
