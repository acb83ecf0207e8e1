use Rattle.std.proofs.Common.{◌≡◌, ◌++◌, drop}
use Rattle.std.specs.List.{flat_map}
use Rattle.bin_routes.specs.Table.{RouteMaps}
use Rattle.claim_model.specs.Bytes.{bytes_with}
use Rattle.log_audit.specs.Ledger.{ruling_paid, row_paid}
use Rattle.log_audit.proofs.report.paid.take_row.Given as goal

-- the payments so far, and then those of the rulings that are left
abbrev pub invariant-loop-ruling : goal.invariant-loop-ruling
invariant-loop-ruling l =
    (routes : RouteMaps) → l.paid.items ++ flat_map (ruling_paid (bytes_with routes) l.book.rows l.row.id.pharmacy) (drop l.ruling-index l.ruling-items)
    ≡ l.initial.paid.items ++ row_paid (bytes_with routes) l.book.rows l.row
