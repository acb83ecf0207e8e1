-- What opened.
use Rattle.log_growth.proofs.over.check_opens.Goals as goal
use Rattle.log_growth.proofs.over.check_opens.Goals.{in-Ok, in-Err-OutOfMemory, in-Err}

pub returns-clause-opens : goal.returns-clause-opens
returns-clause-opens c = elim c.match-open.branch [
  | in-Ok w ↦ rw w.result-is (record { kept = w.in-Ok.field-0.1; serving = w.in-Ok.field-0.0; opened = w.in-Ok.ensures.opened })
  | in-Err-OutOfMemory w ↦ rw w.result-is tt
  | in-Err w ↦ rw w.result-is tt
]
