use Rattle.std.proofs.Common.{◌∙◌}
use Rattle.claim_model.specs.Bytes.{bytes_with}
use Rattle.node_service.specs.Payments.{ruling_payment}
use Rattle.node_service.proofs.Loops.{texts_go_on, texts_are_done}
use Rattle.node_service.proofs.payments.put_row.Goals as goal

pub loop-ruling-preserved : goal.loop-ruling-preserved
loop-ruling-preserved c = λ routes.
    texts_go_on (ruling_payment (bytes_with routes) c.args.book.now) c.loop-ruling.list.items c.put_ruling.new.list.items _ c.rulings-ruling-items.result.now c.loop-ruling.ruling-index c.ruling-item.result c.loop-ruling-test.true c.ruling-item.is
    (c.in_ok-put_ruling.ensures routes) (c.loop-ruling.invariant routes)

pub returns : goal.returns
returns c = λ routes.
    texts_are_done (ruling_payment (bytes_with routes) c.args.book.now) c.loop-ruling.list.items _ c.rulings-ruling-items.result.now c.loop-ruling.ruling-index c.loop-ruling-test.false (c.loop-ruling.invariant routes)
    ∙ rw c.rulings-ruling-items.ensures
