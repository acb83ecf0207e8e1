use Rattle.log_audit.specs.Caps.{cap_row}
use Rattle.log_audit.proofs.Joining.{rows_text-one}
use Rattle.log_audit.proofs.revisions.caps.put_cap.Goals as goal

pub returns : goal.returns
unfolding cap_row
returns c = rw rows_text-one (rw (c.number.ensures, c.number-2.ensures, c.number_or_nothing.ensures, c.number-3.ensures) at c.put_row.ensures)
