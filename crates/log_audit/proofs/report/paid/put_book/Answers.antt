use Rattle.log_audit.specs.Ledger.{book_text}
use Rattle.log_audit.proofs.report.paid.put_book.Goals as goal

pub returns : goal.returns
unfolding book_text
returns c = λ routes. rw (c.as_slice.ensures.value, c.in_ok-paid.ensures routes, c.rows.ensures.value) at c.put_sums_of_book.ensures
