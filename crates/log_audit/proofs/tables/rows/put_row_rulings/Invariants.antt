use Rattle.std.proofs.Common.{◌≡◌, ◌+◌, ◌++◌, drop}
use Rattle.table_text.specs.Rows.{rows_text}
use Rattle.log_audit.specs.Payments.{told_from}
use Rattle.log_audit.specs.Rulings.{ruling_rows}
use Rattle.log_audit.proofs.tables.rows.put_row_rulings.Given as goal

-- the rows so far, and then those of the rulings that are left
abbrev pub invariant-loop-passed : goal.invariant-loop-passed
invariant-loop-passed l =
    l.out.items ++ rows_text l.style (told_from (ruling_rows l.fn.book.payer l.fn.row) (l.passed + 1) (drop l.passed l.rulings))
    ≡ l.initial.out.items ++ rows_text l.style (told_from (ruling_rows l.fn.book.payer l.fn.row) 1 l.rulings)
