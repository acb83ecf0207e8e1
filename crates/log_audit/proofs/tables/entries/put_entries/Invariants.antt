use Rattle.std.proofs.Common.{◌≡◌, ◌++◌, drop}
use Rattle.table_text.specs.Rows.{rows_text}
use Rattle.log_audit.specs.Entries.{entry_rows}
use Rattle.log_audit.proofs.tables.entries.put_entries.Given as goal

-- the rows so far, and then those of the entries and payments that are left
abbrev pub invariant-loop-entry : goal.invariant-loop-entry
invariant-loop-entry g l =
    l.out ++ rows_text l.style (entry_rows l.pharmacy (drop l.entry-index l.entries) l.left)
    ≡ l.initial.out ++ rows_text l.style (entry_rows l.pharmacy l.entries l.paid)
