use Rattle.log_audit.specs.Terms.{terms_row}
use Rattle.log_audit.proofs.Joining.{rows_text-one}
use Rattle.log_audit.proofs.revisions.terms.put_terms.Goals as goal

pub returns : goal.returns
unfolding terms_row
returns c =
    rw rows_text-one (rw (c.number.ensures, c.number-2.ensures, c.number_or_nothing.ensures, c.fee_in.ensures, c.number_or_nothing-2.ensures, c.copay_in.ensures, c.number-3.ensures, c.number-4.ensures) at c.put_row.ensures)
