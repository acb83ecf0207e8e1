-- A world that events reach is sound.
use Rattle.claim_model.proofs.Runs.{reached_sound}
use Rattle.claim_model.proofs.Held.{answers_decided}
use Rattle.claim_model.proofs.answers.answers_are_decided.Goals as goal

pub returns : goal.returns
returns c = λ ctx settings w r. answers_decided ctx settings w r.laws (reached_sound ctx settings w r)
