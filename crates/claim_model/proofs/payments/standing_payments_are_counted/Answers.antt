-- What an answer names and nobody reversed is told as counted.
use Rattle.claim_model.proofs.CountedInFull.{standing_counted}
use Rattle.claim_model.proofs.payments.standing_payments_are_counted.Goals as goal

pub returns : goal.returns
returns c = standing_counted
