use Rattle.claim_reports.specs.Statement.{line_row}
use Rattle.claim_reports.proofs.statement.LineRow.put.Goals as goal

pub returns : goal.returns
unfolding line_row
returns c =
    rw (
      c.number.ensures,
      c.number-2.ensures,
      c.number-3.ensures,
      c.number-4.ensures,
      c.word.ensures,
      c.kind_of.ensures,
      c.text.ensures,
      c.number-5.ensures,
      c.cents_field.ensures,
    ) at c.put_row.ensures
