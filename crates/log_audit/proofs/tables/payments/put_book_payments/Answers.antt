use Rattle.claim_model.specs.Bytes.{bytes_with}
use Rattle.pharmacy_journal.specs.Counting.{has_auth}
use Rattle.log_audit.specs.Payments.{row_payments}
use Rattle.log_audit.proofs.Pieces.{piece_put}
use Rattle.log_audit.proofs.Joining.{blocks_go_on, blocks_are_done}
use Rattle.std.proofs.Common.{◌∙◌}
use Rattle.log_audit.proofs.tables.payments.put_book_payments.Goals as goal

pub loop-row-preserved : goal.loop-row-preserved
loop-row-preserved g c = λ routes.
    blocks_go_on c.args.style (row_payments (bytes_with routes) (has_auth c.args.counted.now.keys) c.args.book.now) c.loop-row.out c.put.new.self _ c.rows-row-items.result.now c.loop-row.row-index c.row-item.result c.loop-row-test.true c.row-item.is
    (piece_put c.loop-row.out c.put.new.self c.clear.new.self.items c.put_row_payments.new.out.items c.as_slice.result.now _ c.clear.ensures.items (c.in_ok-put_row_payments.ensures routes) c.as_slice.ensures.value c.in_ok-put.ensures) (c.loop-row.invariant routes)

pub returns : goal.returns
returns g c = λ routes.
    blocks_are_done c.args.style (row_payments (bytes_with routes) (has_auth c.args.counted.now.keys) c.args.book.now) c.loop-row.out _ c.rows-row-items.result.now c.loop-row.row-index c.loop-row-test.false (c.loop-row.invariant routes)
    ∙ rw c.rows-row-items.ensures.value
