use Rattle.log_audit.proofs.judging.waiting.put_reason.Goals as goal

pub returns-in-Take : goal.returns-in-Take
returns-in-Take c = rw c.in-Take.is c.put_taken.ensures

pub returns-in-Adjudicate : goal.returns-in-Adjudicate
returns-in-Adjudicate c = rw c.in-Adjudicate.is c.put_taken-in-Adjudicate.ensures
