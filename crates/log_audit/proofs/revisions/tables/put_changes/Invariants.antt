use Rattle.std.proofs.Common.{◌≡◌, [], ◌++◌, take, drop, map}
use Rattle.table_text.specs.Rows.{rows_text}
use Rattle.table_text.specs.declared.layout.Style.TheVariants.{Csv}
use Rattle.log_audit.specs.Changes.{change_seen}
use Rattle.log_audit.specs.Following.{rows_behind}
use Rattle.log_audit.specs.ChangeTables.{change_rows}
use Rattle.log_audit.proofs.revisions.tables.put_changes.Given as goal

-- the rows so far, and then those of the changes that are left, after those that were told
abbrev pub invariant-loop-place : goal.invariant-loop-place
invariant-loop-place l =
    l.out.items ++ rows_text Csv (rows_behind (change_rows l.settings l.of l.name) (map change_seen (take l.place l.changes)) (map change_seen (drop l.place l.changes)))
    ≡ l.initial.out.items ++ rows_text Csv (rows_behind (change_rows l.settings l.of l.name) [] (map change_seen l.changes))
