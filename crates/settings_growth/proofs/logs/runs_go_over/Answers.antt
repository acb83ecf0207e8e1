-- The same turns, of logs that go over.
use Rattle.settings_growth.proofs.Running.{runs_over}
use Rattle.settings_growth.proofs.logs.runs_go_over.Goals as goal

pub returns : goal.returns
returns c = runs_over
