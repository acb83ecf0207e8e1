use Rattle.envelope.proofs.Unfolded.{opened_is_text}
use Rattle.envelope.proofs.laws.envelope_is_its_text.Goals as goal

pub returns : goal.returns
returns c = opened_is_text
