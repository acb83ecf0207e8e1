use Rattle.std.proofs.Common.{◌≡◌, ◌++◌, drop}
use Rattle.table_text.specs.Rows.{rows_text}
use Rattle.log_audit.specs.CountedRows.{counted_rows}
use Rattle.log_audit.proofs.tables.counting.put_counted.Given as goal

-- the rows so far, and then those of the payments that are left
abbrev pub invariant-loop-payment : goal.invariant-loop-payment
invariant-loop-payment g l =
    l.out ++ rows_text l.style (counted_rows l.pharmacy (drop l.payment-index l.paid))
    ≡ l.initial.out ++ rows_text l.style (counted_rows l.pharmacy l.paid)
