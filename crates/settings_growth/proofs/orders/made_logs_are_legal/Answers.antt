-- Turn by turn.
use Rattle.settings_growth.proofs.Running.{legal}
use Rattle.settings_growth.proofs.orders.made_logs_are_legal.Goals as goal

pub returns : goal.returns
returns c = legal
