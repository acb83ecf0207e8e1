use Rattle.table_text.proofs.JsonBack.{json_read_back}
use Rattle.table_text.proofs.laws.json_is_read_back.Goals as goal

pub returns : goal.returns
returns c = json_read_back
