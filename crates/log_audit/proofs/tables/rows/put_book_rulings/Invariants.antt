use Rattle.std.proofs.Common.{◌≡◌, ◌++◌, drop}
use Rattle.std.specs.List.{flat_map}
use Rattle.table_text.specs.Rows.{rows_text}
use Rattle.log_audit.specs.Rulings.{row_rulings}
use Rattle.log_audit.proofs.tables.rows.put_book_rulings.Given as goal

-- the rows so far, and then those of what is left
abbrev pub invariant-loop-row : goal.invariant-loop-row
invariant-loop-row g l =
    l.out ++ rows_text l.style (flat_map (row_rulings l.book) (drop l.row-index l.row-items))
    ≡ l.initial.out ++ rows_text l.style (flat_map (row_rulings l.book) l.row-items)
