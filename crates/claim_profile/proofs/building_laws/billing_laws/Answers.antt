use Rattle.claim_profile.specs.Building.{billing_parts, billing_text}
use Rattle.claim_profile.proofs.BuiltFrames.{billing_framed}
use Rattle.claim_profile.proofs.BuiltLengths.{billing_readable}
use Rattle.claim_profile.proofs.building_laws.billing_laws.Goals as goal

pub returns-clause-again : goal.returns-clause-again
unfolding billing_text
returns-clause-again c = λ b is. c.request_laws.ensures.again (billing_parts b) (billing_framed b is)

pub returns-clause-readable : goal.returns-clause-readable
unfolding billing_text
returns-clause-readable c = λ b is. billing_readable c.request_text_laws.ensures.width c.number_reads_back.ensures c.amount_reads_back.ensures b is (c.request_laws.ensures.again (billing_parts b) (billing_framed b is))
