use Rattle.std.proofs.Common.{◌≡◌, ◌++◌, drop}
use Rattle.std.specs.List.{flat_map}
use Rattle.bin_routes.specs.Table.{RouteMaps}
use Rattle.claim_model.specs.Bytes.{bytes_with}
use Rattle.log_audit.specs.Ledger.{row_paid, book_paid}
use Rattle.log_audit.proofs.report.paid.book_paid.Given as goal

-- the payments so far, and then those of the rows that are left
abbrev pub invariant-loop-row : goal.invariant-loop-row
invariant-loop-row l = (routes : RouteMaps) → l.paid.items ++ flat_map (row_paid (bytes_with routes) l.book.rows) (drop l.row-index l.row-items) ≡ book_paid (bytes_with routes) l.book
