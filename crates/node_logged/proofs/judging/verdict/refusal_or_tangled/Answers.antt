use Rattle.node_logged.proofs.judging.verdict.refusal_or_tangled.Goals as goal

pub returns-in-Some : goal.returns-in-Some
returns-in-Some c = λ s tills none stands. c.refusal.ensures s tills (rw c.in-Some.is at stands)
