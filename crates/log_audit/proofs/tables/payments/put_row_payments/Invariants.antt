use Rattle.std.proofs.Common.{◌≡◌, ◌+◌, ◌++◌, drop}
use Rattle.bin_routes.specs.Table.{RouteMaps}
use Rattle.claim_model.specs.Bytes.{bytes_with}
use Rattle.table_text.specs.Rows.{rows_text}
use Rattle.pharmacy_journal.specs.Counting.{has_auth}
use Rattle.log_audit.specs.Payments.{ruling_payment, told_from}
use Rattle.log_audit.proofs.tables.payments.put_row_payments.Given as goal

-- the rows so far, and then those of the rulings that are left
abbrev pub invariant-loop-passed : goal.invariant-loop-passed
invariant-loop-passed l =
    (routes : RouteMaps) → l.out.items ++ rows_text l.style (told_from (ruling_payment (bytes_with routes) (has_auth l.counted.keys) l.book l.row) (l.passed + 1) (drop l.passed l.rulings))
    ≡ l.initial.out.items ++ rows_text l.style (told_from (ruling_payment (bytes_with routes) (has_auth l.counted.keys) l.book l.row) 1 l.rulings)
