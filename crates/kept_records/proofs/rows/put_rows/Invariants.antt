use Rattle.std.proofs.Common.{take}
use Rattle.kept_records.proofs.RowLoops.{ArePut}
use Rattle.kept_records.proofs.rows.put_rows.Given as goal

abbrev pub invariant-loop-row : goal.invariant-loop-row
invariant-loop-row l = ArePut l.fn.out.items l.out.items (take l.row-index l.rows)
