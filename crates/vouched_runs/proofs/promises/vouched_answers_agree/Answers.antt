-- What is held is what was decided, and what was decided stays.
use Rattle.vouched_runs.proofs.Leading.{vouched_agree}
use Rattle.vouched_runs.proofs.promises.vouched_answers_agree.Goals as goal

pub returns : goal.returns
returns c = vouched_agree
