use Rattle.log_audit.proofs.tables.table.put_table.Goals as goal

pub returns-in-Alone : goal.returns-in-Alone
returns-in-Alone g c = λ routes. rw c.in-Alone.is (c.put_lone_table.ensures routes)
