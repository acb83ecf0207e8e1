use Rattle.input_text.proofs.RoundTrip.{unprinted_from-printed}
use Rattle.input_text.proofs.unprinting.printed_reads_back.Goals as goal

pub returns : goal.returns
returns c = λ bytes are. unprinted_from-printed 0 bytes are
