-- What is held is what was decided, and what was decided stays.
use Rattle.claim_model.proofs.Held.{one_answer}
use Rattle.claim_model.proofs.answers.one_answer.Goals as goal

pub returns : goal.returns
returns c = one_answer
