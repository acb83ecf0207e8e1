use Rattle.claim_model.specs.Bytes.{bytes_with}
use Rattle.node_service.specs.Payments.{row_payments}
use Rattle.node_service.proofs.Loops.{texts_go_on}
use Rattle.node_service.proofs.payments.book_payments.Goals as goal

pub loop-row-preserved : goal.loop-row-preserved
loop-row-preserved c = λ routes.
    texts_go_on (row_payments (bytes_with routes) c.args.book.now) c.loop-row.list.items c.put_row.new.list.items _ c.rows-row-items.result.now c.loop-row.row-index c.row-item.result c.loop-row-test.true c.row-item.is
    (c.in_ok-put_row.ensures routes) (c.loop-row.invariant routes)
