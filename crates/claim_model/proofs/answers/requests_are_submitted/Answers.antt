-- A world that events reach is sound.
use Rattle.claim_model.proofs.Runs.{reached_sound}
use Rattle.claim_model.proofs.Held.{requests_submitted}
use Rattle.claim_model.proofs.answers.requests_are_submitted.Goals as goal

pub returns : goal.returns
returns c = λ ctx settings w r. requests_submitted ctx settings w r.laws (reached_sound ctx settings w r)
