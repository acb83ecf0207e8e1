use Rattle.std.proofs.Common.{◌∙◌}
use Rattle.claim_model.specs.Bytes.{bytes_with}
use Rattle.world_report.specs.Places.{txn_name}
use Rattle.world_report.specs.BookRows.{told_row}
use Rattle.world_report.proofs.Loops.{told_goes_on, told_is_done}
use Rattle.world_report.proofs.book_rows.put_row.Goals as goal

pub loop-passed-preserved : goal.loop-passed-preserved
loop-passed-preserved c = λ routes.
    let ruling = c.index-rulings-passed.result in
    let one = rw (c.was_reversed.ensures routes) at c.in_ok-put_row_place.ensures in
    told_goes_on (told_row (bytes_with routes) c.args.book.now.rows) c.loop-passed.out.items c.put_row_place.new.out.items _ (txn_name c.id-id.result) _ c.request_code-code.result c.rulings-rulings.result.now c.loop-passed.passed ruling
    c.loop-passed-test.true c.index-rulings-passed.is one (c.loop-passed.invariant routes)

pub returns : goal.returns
returns c = λ routes.
    told_is_done (told_row (bytes_with routes) c.args.book.now.rows) c.loop-passed.out.items _ (txn_name c.id-id.result) _ c.request_code-code.result c.rulings-rulings.result.now c.loop-passed.passed c.loop-passed-test.false (c.loop-passed.invariant routes)
    ∙ rw (c.id-id.ensures, c.request_code-code.ensures, c.rulings-rulings.ensures)
