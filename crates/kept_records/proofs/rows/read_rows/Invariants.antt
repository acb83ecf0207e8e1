use Rattle.std.proofs.Common.{◌≡◌, ◌-◌}
use Rattle.kept_records.specs.Faults.{each_in}
use Rattle.kept_records.specs.Books.{row_in}
use Rattle.kept_records.proofs.rows.read_rows.Given as goal

abbrev pub invariant-loop : goal.invariant-loop
invariant-loop l = each_in (row_in l.version) l.total l.count l.fn.book l.bytes ≡ each_in (row_in l.version) l.total (l.count - l.counter) l.book l.rest
