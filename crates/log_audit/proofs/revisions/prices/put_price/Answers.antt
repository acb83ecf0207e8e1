use Rattle.log_audit.specs.Prices.{price_row}
use Rattle.log_audit.proofs.Joining.{rows_text-one}
use Rattle.log_audit.proofs.revisions.prices.put_price.Goals as goal

pub returns : goal.returns
unfolding price_row
returns c = rw rows_text-one (rw (c.number.ensures, c.number-2.ensures, c.text.ensures, c.number_or_nothing.ensures, c.number_or_nothing-2.ensures) at c.put_row.ensures)
