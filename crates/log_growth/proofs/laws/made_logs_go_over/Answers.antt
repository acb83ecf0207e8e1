-- The log is made under the new settings.
use Rattle.log_growth.proofs.MadeOver.{never_refused}
use Rattle.log_growth.proofs.laws.made_logs_go_over.Goals as goal

pub returns : goal.returns
returns c = never_refused
