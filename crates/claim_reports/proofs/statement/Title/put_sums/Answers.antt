use Rattle.claim_reports.specs.Statement.{sums_row}
use Rattle.claim_reports.proofs.statement.Title.put_sums.Goals as goal

pub returns : goal.returns
unfolding sums_row
returns c =
    rw (
      c.number.ensures,
      c.number-2.ensures,
      c.number-3.ensures,
      c.number-4.ensures,
      c.number-5.ensures,
      c.number-6.ensures,
      c.number-7.ensures,
      c.number-8.ensures,
    ) at c.put_row.ensures
