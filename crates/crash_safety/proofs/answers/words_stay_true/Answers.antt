-- What was said is among the packets of the run.
use Rattle.crash_safety.proofs.Promises.{requests_kept, answers_kept}
use Rattle.crash_safety.proofs.answers.words_stay_true.Goals as goal

pub returns-clause-requests : goal.returns-clause-requests
returns-clause-requests c = requests_kept

pub returns-clause-answers : goal.returns-clause-answers
returns-clause-answers c = answers_kept
