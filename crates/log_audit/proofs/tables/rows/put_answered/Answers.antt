use Rattle.log_audit.specs.Rulings.{answered_row}
use Rattle.log_audit.proofs.tables.rows.put_answered.Goals as goal

pub returns : goal.returns
unfolding answered_row
returns c =
    rw (c.number.ensures, c.number-2.ensures, c.number-3.ensures, c.word.ensures, c.number-4.ensures, c.word-2.ensures, c.text.ensures, c.text-2.ensures, c.number_or_nothing.ensures, c.text-3.ensures, c.number_or_nothing-2.ensures) at c.put_row.ensures
