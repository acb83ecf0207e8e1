use Rattle.std.proofs.Common.{◌≡◌, ◌++◌, drop}
use Rattle.std.specs.List.{flat_map}
use Rattle.bin_routes.specs.Table.{RouteMaps}
use Rattle.claim_model.specs.Bytes.{bytes_with}
use Rattle.table_text.specs.Rows.{rows_text}
use Rattle.pharmacy_journal.specs.Counting.{has_auth}
use Rattle.log_audit.specs.Payments.{row_payments}
use Rattle.log_audit.proofs.tables.payments.put_book_payments.Given as goal

-- the rows so far, and then those of what is left
abbrev pub invariant-loop-row : goal.invariant-loop-row
invariant-loop-row g l =
    (routes : RouteMaps) → l.out ++ rows_text l.style (flat_map (row_payments (bytes_with routes) (has_auth l.counted.keys) l.book) (drop l.row-index l.row-items))
    ≡ l.initial.out ++ rows_text l.style (flat_map (row_payments (bytes_with routes) (has_auth l.counted.keys) l.book) l.row-items)
