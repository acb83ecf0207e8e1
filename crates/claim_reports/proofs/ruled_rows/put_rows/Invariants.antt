use Rattle.std.proofs.Common.{drop, map}
use Rattle.csv.specs.Records.{fields_of}
use Rattle.claim_reports.proofs.Lines.{Continues}
use Rattle.claim_reports.proofs.ruled_rows.put_rows.Given as goal

-- with the lines of the rows that are left it is all of them
abbrev pub invariant-loop-place : goal.invariant-loop-place
invariant-loop-place l = Continues l.initial.out.items l.out.items (map fields_of l.rows) (map fields_of (drop l.place l.rows)) l.times (drop l.place l.times)
