use Rattle.message_encoding.proofs.JsonParts.{all_back}
use Rattle.message_encoding.proofs.laws.parts_read_back.Goals as goal

pub returns : goal.returns
returns c = all_back
