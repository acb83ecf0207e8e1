use Rattle.std.proofs.Common.{◌+◌, ◌∙◌, refl}
use Rattle.claim_model.specs.Bytes.{bytes_with}
use Rattle.pharmacy_journal.specs.Counting.{has_auth}
use Rattle.log_audit.specs.Payments.{ruling_payment, told_from}
use Rattle.log_audit.proofs.Joining.{rows_go_on, rows_are_done}
use Rattle.log_audit.proofs.tables.payments.put_row_payments.Goals as goal

pub loop-passed-preserved : goal.loop-passed-preserved
loop-passed-preserved c = λ routes.
    rows_go_on c.args.style (told_from (ruling_payment (bytes_with routes) (has_auth c.args.counted.now.keys) c.args.book.now c.args.row.now) (c.loop-passed.passed + 1)) _ _ c.loop-passed.out.items c.put_ruling_payment.new.out.items _
    c.rulings-rulings.result.now c.loop-passed.passed c.index-rulings-passed.result c.loop-passed-test.true c.index-rulings-passed.is refl (c.in_ok-put_ruling_payment.ensures routes) (c.loop-passed.invariant routes)

pub returns : goal.returns
returns c = λ routes.
    rows_are_done c.args.style (told_from (ruling_payment (bytes_with routes) (has_auth c.args.counted.now.keys) c.args.book.now c.args.row.now) (c.loop-passed.passed + 1)) c.loop-passed.out.items _
    c.rulings-rulings.result.now c.loop-passed.passed c.loop-passed-test.false refl (c.loop-passed.invariant routes)
    ∙ rw c.rulings-rulings.ensures
