use Rattle.std.proofs.Common.{◌≡◌, ◌+◌, ◌++◌, drop}
use Rattle.world_report.specs.Words.{lines_text}
use Rattle.world_report.specs.Nodes.{switch_lines, lines_from}
use Rattle.world_report.proofs.nodes.put_switches.Given as goal

-- the lines so far, and then those of the nodes that are left
abbrev pub invariant-loop-place : goal.invariant-loop-place
invariant-loop-place l =
    l.out.items ++ lines_text (lines_from switch_lines (l.place + 1) (drop l.place l.nodes)) ≡ l.initial.out.items ++ lines_text (lines_from switch_lines 1 l.nodes)
