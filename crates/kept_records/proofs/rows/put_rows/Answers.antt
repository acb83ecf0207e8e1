use Rattle.kept_records.proofs.RowLoops.{rows_more}
use Rattle.kept_records.proofs.rows.put_rows.Goals as goal

pub loop-row-preserved : goal.loop-row-preserved
loop-row-preserved c =
    rows_more c.args.out.now.items c.loop-row.out.items c.put_row.new.out.items c.args.rows.now c.loop-row.row-index c.row-item.result c.loop-row-test.true c.row-item.is c.loop-row.invariant c.in_ok-put_row.ensures.text c.in_ok-put_row.ensures.kept
