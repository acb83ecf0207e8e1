use Rattle.table_text.proofs.ReadBack.{csv_read_back}
use Rattle.table_text.proofs.laws.csv_is_read_back.Goals as goal

pub returns : goal.returns
returns c = csv_read_back
