use Rattle.claim_profile.specs.Building.{reversal_parts, reversal_text}
use Rattle.claim_profile.proofs.BuiltFrames.{reversal_framed}
use Rattle.claim_profile.proofs.BuiltLengths.{reversal_readable}
use Rattle.claim_profile.proofs.building_laws.reversal_laws.Goals as goal

pub returns-clause-again : goal.returns-clause-again
unfolding reversal_text
returns-clause-again c = λ r is. c.request_laws.ensures.again (reversal_parts r) (reversal_framed r is)

pub returns-clause-readable : goal.returns-clause-readable
unfolding reversal_text
returns-clause-readable c = λ r is. reversal_readable c.request_text_laws.ensures.width c.number_reads_back.ensures r is (c.request_laws.ensures.again (reversal_parts r) (reversal_framed r is))
