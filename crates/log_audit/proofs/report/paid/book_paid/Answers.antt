use Rattle.std.proofs.Common.{List, refl, drop, ◌+◌}
use Rattle.std.specs.List.{flat_map}
use Rattle.claim_model.specs.Bytes.{bytes_with}
use Rattle.claim_model.specs.Rows.{Row}
use Rattle.log_audit.specs.Ledger.{row_paid}
use Rattle.log_audit.proofs.AppendLoops.{goes_on}
use Rattle.log_audit.proofs.report.paid.book_paid.Goals as goal

pub loop-row-preserved : goal.loop-row-preserved
loop-row-preserved c = λ routes.
    let told = row_paid (bytes_with routes) c.args.book.now.rows in
    goes_on (λ (rows : List Row). flat_map told rows) (told c.row-item.result) (flat_map told (drop (c.loop-row.row-index + 1) c.rows-row-items.result.now))
    c.loop-row.paid.items c.take_row.new.paid.items _ c.rows-row-items.result.now c.loop-row.row-index c.row-item.result c.loop-row-test.true c.row-item.is refl
    (c.in_ok-take_row.ensures routes) (c.loop-row.invariant routes)
