use Rattle.log_audit.proofs.Joining.{rows_text-one}
use Rattle.log_audit.proofs.tables.payments.put_found.Goals as goal

pub returns-in-Some : goal.returns-in-Some
returns-in-Some c = rw (c.in-Some.is, rows_text-one) c.put_payment.ensures
