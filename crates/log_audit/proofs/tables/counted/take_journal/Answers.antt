use Rattle.log_audit.proofs.tables.counted.take_journal.Goals as goal

pub returns : goal.returns
returns c = λ routes. rw (← c.in_ok-paid.ensures routes, ← c.as_slice.ensures.value) c.take_payments.ensures
