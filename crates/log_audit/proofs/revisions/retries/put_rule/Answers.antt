use Rattle.log_audit.specs.Rules.{rule_row}
use Rattle.log_audit.proofs.Joining.{rows_text-one}
use Rattle.log_audit.proofs.revisions.retries.put_rule.Goals as goal

pub returns : goal.returns
unfolding rule_row
returns c =
    rw rows_text-one (rw (c.number.ensures, c.number-2.ensures, c.text.ensures, c.as_slice.ensures.value, c.in_ok-from.ensures, c.number_or_nothing.ensures, c.again_in.ensures, c.number_or_nothing-2.ensures, c.tries_in.ensures, c.text-2.ensures, c.as_slice-2.ensures.value, c.in_ok-to.ensures, c.number-3.ensures, c.number-4.ensures) at c.put_row.ensures)
