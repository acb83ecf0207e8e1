use Rattle.envelope.proofs.Spelled.{text_opens}
use Rattle.envelope.proofs.laws.envelope_reads_back.Goals as goal

pub returns : goal.returns
returns c = text_opens
