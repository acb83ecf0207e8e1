use Rattle.log_audit.proofs.tables.table.put_run_table.Goals as goal

pub returns-in-Payments : goal.returns-in-Payments
returns-in-Payments g c = λ routes. rw c.in-Payments.is (c.put_payments.ensures routes)

pub returns-in-Entries : goal.returns-in-Entries
returns-in-Entries g c = λ routes. rw c.in-Entries.is (rw c.pharmacies.ensures at (c.put_journals.ensures routes))

pub returns-in-Rows : goal.returns-in-Rows
returns-in-Rows g c = λ routes. rw c.in-Rows.is (rw c.payers.ensures at (c.put_books.ensures routes))

pub returns-in-Counted : goal.returns-in-Counted
returns-in-Counted g c = λ routes. rw c.in-Counted.is (rw c.pharmacies-in-Counted.ensures at (c.put_journals-in-Counted.ensures routes))
