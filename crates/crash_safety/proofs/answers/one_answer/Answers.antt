-- By the run of the disks, and by what it goes on to.
use Rattle.crash_safety.proofs.Promises.{one_answer_at_once, one_answer_later}
use Rattle.crash_safety.proofs.answers.one_answer.Goals as goal

pub returns-clause-at_once : goal.returns-clause-at_once
returns-clause-at_once c = one_answer_at_once

pub returns-clause-later : goal.returns-clause-later
returns-clause-later c = one_answer_later
