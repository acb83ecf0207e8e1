use Rattle.log_audit.specs.CountedRows.{counted_row}
use Rattle.log_audit.proofs.tables.counting.put_payment.Goals as goal

pub returns : goal.returns
unfolding counted_row
returns c =
    rw (c.number.ensures, c.from.ensures, c.number-2.ensures, c.from-2.ensures, c.payer.ensures.value, c.text.ensures, c.digits-digits.ensures, c.number-3.ensures, c.from-3.ensures, c.cost.ensures.value, c.number-4.ensures, c.from-4.ensures, c.fee.ensures.value, c.number-5.ensures, c.from-5.ensures, c.copay.ensures.value, c.number-6.ensures, c.from-6.ensures, c.total.ensures.value, c.number-7.ensures, c.number-8.ensures, c.from-7.ensures, c.auth-auth.ensures, c.amounts-amounts.ensures, c.fill-fill.ensures) at c.put_row.ensures
