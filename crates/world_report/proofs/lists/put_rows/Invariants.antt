use Rattle.std.proofs.Common.{◌≡◌, ◌++◌, drop}
use Rattle.std.specs.List.{flat_map}
use Rattle.bin_routes.specs.Table.{RouteMaps}
use Rattle.claim_model.specs.Bytes.{bytes_with}
use Rattle.world_report.specs.Words.{lines_text}
use Rattle.world_report.specs.BookRows.{row_lines}
use Rattle.world_report.proofs.lists.put_rows.Given as goal

-- the lines so far, and then those of the rows that are left
abbrev pub invariant-loop-row : goal.invariant-loop-row
invariant-loop-row l =
    (routes : RouteMaps) → l.out.items ++ lines_text (flat_map (row_lines (bytes_with routes) l.book.rows) (drop l.row-index l.rows)) ≡ l.initial.out.items ++ lines_text (flat_map (row_lines (bytes_with routes) l.book.rows) l.rows)
