use Rattle.node_logged.proofs.Marking.{marks_none, marks_one}
use Rattle.node_logged.proofs.judging.receipts.mark.Goals as goal

pub returns-in-Some : goal.returns-in-Some
returns-in-Some c = λ left all m. marks_one c.args.ledger.now.entries c.args.receipt.now c.in-Some.place left all c.args.marks.now c.in-Some.ensures m

pub returns-in_default : goal.returns-in_default
returns-in_default c = λ left all m. marks_none c.args.ledger.now.entries c.args.receipt.now left all c.args.marks.now c.in_default.ensures m
