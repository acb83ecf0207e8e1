use Rattle.std.proofs.Common.{◌≡◌, ◌+◌, ◌++◌, drop}
use Rattle.bin_routes.specs.Table.{RouteMaps}
use Rattle.claim_model.specs.Bytes.{bytes_with}
use Rattle.world_report.specs.Words.{lines_text}
use Rattle.world_report.specs.Nodes.{pharmacy_lines, lines_from}
use Rattle.world_report.proofs.nodes.put_pharmacies.Given as goal

-- the lines so far, and then those of the nodes that are left
abbrev pub invariant-loop-place : goal.invariant-loop-place
invariant-loop-place l =
    (routes : RouteMaps) → l.out.items ++ lines_text (lines_from (pharmacy_lines (bytes_with routes)) (l.place + 1) (drop l.place l.nodes)) ≡ l.initial.out.items ++ lines_text (lines_from (pharmacy_lines (bytes_with routes)) 1 l.nodes)
