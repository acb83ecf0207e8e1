-- A reversal matches payments of its own provider alone.
use Rattle.claim_model.proofs.Owners.{reversed_by_owner}
use Rattle.claim_model.proofs.payments.reversed_by_owner.Goals as goal

pub returns : goal.returns
returns c = reversed_by_owner
