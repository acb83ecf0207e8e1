use Rattle.world_report.specs.Rulings.{paid_line}
use Rattle.world_report.proofs.Joining.{lines_go_on, lines_are_done}
use Rattle.world_report.proofs.lists.put_payments.Goals as goal

pub loop-payment-preserved : goal.loop-payment-preserved
loop-payment-preserved c =
    lines_go_on paid_line c.loop-payment.out.items c.put_paid.new.out.items _ c.args.payments.now c.loop-payment.payment-index c.payment-item.result c.loop-payment-test.true c.payment-item.is c.in_ok-put_paid.ensures c.loop-payment.invariant

pub returns : goal.returns
returns c = lines_are_done paid_line c.loop-payment.out.items _ c.args.payments.now c.loop-payment.payment-index c.loop-payment-test.false c.loop-payment.invariant
