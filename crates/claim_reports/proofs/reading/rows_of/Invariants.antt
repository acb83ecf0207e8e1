use Rattle.std.proofs.Common.{◌≡◌, ◌+◌, map, drop}
use Rattle.csv.specs.Records.{fields_of}
use Rattle.claim_reports.specs.Causes.{bad_rows}
use Rattle.claim_reports.specs.Tables.{given_by}
use Rattle.claim_reports.proofs.Rowwise.{behind}
use Rattle.claim_reports.proofs.reading.rows_of.Given as goal

-- those so far, and then those of the rows that are left; in none so far is anything bad
abbrev pub invariant-loop-place : goal.invariant-loop-place
invariant-loop-place g l = record {
  read :
      given_by (g.C.Columns.row_in l.columns l.whose) (map fields_of l.record-items)
      ≡ behind l.rows.items (given_by (g.C.Columns.row_in l.columns l.whose) (map fields_of (drop l.place l.record-items)));
  good :
      bad_rows l.table.number (g.C.Columns.bad l.whose l.columns) 1 (map fields_of l.record-items)
      ≡ bad_rows l.table.number (g.C.Columns.bad l.whose l.columns) (l.place + 1) (map fields_of (drop l.place l.record-items));
}
