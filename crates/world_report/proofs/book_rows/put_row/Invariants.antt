use Rattle.std.proofs.Common.{◌≡◌, ◌+◌, ◌++◌, drop, map}
use Rattle.bin_routes.specs.Table.{RouteMaps}
use Rattle.claim_model.specs.Bytes.{bytes_with}
use Rattle.world_report.specs.Words.{lines_text}
use Rattle.world_report.specs.Places.{place_lines, txn_name}
use Rattle.world_report.specs.BookRows.{told_row}
use Rattle.world_report.proofs.book_rows.put_row.Given as goal

-- the lines so far, and then those of the rulings that are left
abbrev pub invariant-loop-passed : goal.invariant-loop-passed
invariant-loop-passed l =
    (routes : RouteMaps) → l.out.items ++ lines_text (place_lines (txn_name l.id) l.count l.code (l.passed + 1) (map (told_row (bytes_with routes) l.book.rows) (drop l.passed l.rulings)))
    ≡ l.initial.out.items ++ lines_text (place_lines (txn_name l.id) l.count l.code 1 (map (told_row (bytes_with routes) l.book.rows) l.rulings))
