use Rattle.log_audit.proofs.alone.report.put_table_of.Goals as goal

pub returns-then-made : goal.returns-then-made
returns-then-made g c = λ routes. rw c.if-made.true (c.put_csv.ensures routes)
