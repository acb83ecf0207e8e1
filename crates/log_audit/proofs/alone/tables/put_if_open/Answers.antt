use Rattle.log_audit.proofs.Joining.{rows_text-one}
use Rattle.log_audit.proofs.alone.tables.put_if_open.Goals as goal

pub returns-then-is_open : goal.returns-then-is_open
returns-then-is_open c = rw (← c.is_open.ensures, c.if-is_open.true, rows_text-one) c.put_open_row.ensures
