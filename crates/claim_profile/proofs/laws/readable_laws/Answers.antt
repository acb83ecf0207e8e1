use Rattle.claim_profile.proofs.CarriedHeaders.{readable_carried}
use Rattle.claim_profile.proofs.laws.readable_laws.Goals as goal

pub returns : goal.returns
returns c = readable_carried c.request_text_laws.ensures.found
