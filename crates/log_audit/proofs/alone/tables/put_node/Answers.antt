use Rattle.log_audit.proofs.alone.tables.put_node.Goals as goal

pub returns-in-Payments : goal.returns-in-Payments
returns-in-Payments g c = λ routes. rw c.in-Payments.is (c.put_book.ensures routes)

pub returns-in-Entries : goal.returns-in-Entries
returns-in-Entries g c = λ routes. rw c.in-Entries.is (c.put_journal.ensures routes)

pub returns-in-Rows : goal.returns-in-Rows
returns-in-Rows g c = λ routes. rw c.in-Rows.is (c.put_book-in-Rows.ensures routes)

pub returns-in-Open : goal.returns-in-Open
returns-in-Open g c = λ routes. rw c.in-Open.is (c.put_journal-in-Open.ensures routes)

pub returns-in-Counted : goal.returns-in-Counted
returns-in-Counted g c = λ routes. rw c.in-Counted.is (c.put_journal-in-Counted.ensures routes)
