-- What is held was written for the whole request.
use Rattle.claim_model.proofs.Whole.{answers_whole}
use Rattle.claim_model.proofs.answers.answers_are_whole.Goals as goal

pub returns : goal.returns
returns c = answers_whole
