-- Fills lead to one payer each, and no payer pays a fill that stands.
use Rattle.claim_model.proofs.Owners.{one_standing}
use Rattle.claim_model.proofs.payments.one_standing_payment.Goals as goal

pub returns : goal.returns
returns c = one_standing
