use Rattle.std.proofs.Common.{◌∷◌, []}
use Rattle.claim_model.specs.Counted.{Counted}
use Rattle.log_audit.specs.CountedRows.{counted_row}
use Rattle.log_audit.proofs.Pieces.{piece_put}
use Rattle.log_audit.proofs.Joining.{blocks_go_on, blocks_are_done, one_row}
use Rattle.log_audit.proofs.tables.counting.put_counted.Goals as goal

pub loop-payment-preserved : goal.loop-payment-preserved
loop-payment-preserved g c =
    blocks_go_on c.args.style (λ (p : Counted). counted_row c.args.pharmacy p ∷ []) c.loop-payment.out c.put.new.self _ c.args.paid.now c.loop-payment.payment-index c.payment-item.result c.loop-payment-test.true c.payment-item.is
    (one_row c.args.style c.loop-payment.out c.put.new.self (counted_row c.args.pharmacy c.payment-item.result)
    (piece_put c.loop-payment.out c.put.new.self c.clear.new.self.items c.put_payment.new.out.items c.as_slice.result.now _ c.clear.ensures.items c.in_ok-put_payment.ensures c.as_slice.ensures.value c.in_ok-put.ensures)) c.loop-payment.invariant

pub returns : goal.returns
returns g c = blocks_are_done c.args.style (λ (p : Counted). counted_row c.args.pharmacy p ∷ []) c.loop-payment.out _ c.args.paid.now c.loop-payment.payment-index c.loop-payment-test.false c.loop-payment.invariant
