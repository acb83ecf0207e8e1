use Rattle.claim_reports.specs.Compared.{shown_row}
use Rattle.claim_reports.proofs.comparing.put_shown.Goals as goal

pub returns : goal.returns
unfolding shown_row
returns c =
    rw (
      c.word.ensures,
      c.text.ensures,
      c.as_slice.ensures.value,
      c.in_ok-digits.ensures,
      c.number_or_nothing.ensures,
      c.number_or_nothing-2.ensures,
      c.flag.ensures,
      c.word-2.ensures,
      c.number_or_nothing-3.ensures,
      c.number_or_nothing-4.ensures,
    ) at c.put_row.ensures
