use Rattle.claim_reports.proofs.Adding.{each_more, all_more}
use Rattle.claim_reports.proofs.Overflows.{fits_on, large_here}
use Rattle.claim_reports.proofs.Telling.{passed}
use Rattle.claim_reports.proofs.totals.totals_of.Goals as goal

pub loop-payment-preserved : goal.loop-payment-preserved
loop-payment-preserved c =
    let adds = rw c.key.ensures at c.in_ok-add.ensures.adds in
    let fits = rw c.key.ensures at c.in_ok-add.ensures.refuses in
    record {
      each = each_more c.args.by c.args.paid.now c.loop-payment.payment-index _ c.loop-payment.totals c.add.new.totals c.loop-payment-test.true adds c.loop-payment.invariant.each;
      all = all_more c.args.paid.now c.loop-payment.payment-index _ c.loop-payment.totals c.add.new.totals _ c.loop-payment-test.true adds c.loop-payment.invariant.all;
      fits = fits_on c.args.by c.args.paid.now c.loop-payment.payment-index _ c.loop-payment.totals c.loop-payment-test.true fits c.loop-payment.invariant.each c.loop-payment.invariant.fits;
    }

pub returns-in_err-add-clause-refuses : goal.returns-in_err-add-clause-refuses
returns-in_err-add-clause-refuses c =
    passed c.from_residual.result _ _ c.from_residual.ensures.1
    (large_here _ c.args.by c.args.paid.now c.loop-payment.payment-index _ c.loop-payment.totals c.loop-payment-test.true (rw c.key.ensures at c.in_err-add.ensures.refuses) c.loop-payment.invariant.each)
