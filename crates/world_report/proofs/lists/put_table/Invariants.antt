use Rattle.std.proofs.Common.{◌≡◌, ◌++◌, drop, map}
use Rattle.world_report.specs.Words.{lines_text}
use Rattle.world_report.specs.Nodes.{in_flight_line}
use Rattle.world_report.proofs.lists.put_table.Given as goal

-- the lines so far, and then those of what is left
abbrev pub invariant-loop-request : goal.invariant-loop-request
invariant-loop-request l = l.out.items ++ lines_text (map in_flight_line (drop l.request-index l.table)) ≡ l.initial.out.items ++ lines_text (map in_flight_line l.table)
