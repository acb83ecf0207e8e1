-- The node is as it was, and the packet is still there.
use Rattle.claim_model.proofs.Serving.{stays_enabled}
use Rattle.claim_model.proofs.local.enabled_calls_stay.Goals as goal

pub returns : goal.returns
returns c = stays_enabled
