use Rattle.kept_logs.proofs.LogsBack.{one_more}
use Rattle.kept_logs.proofs.laws.log_takes_one_more.Goals as goal

pub returns : goal.returns
returns c = one_more
