-- The same turns, of logs that go over.
use Rattle.settings_growth.proofs.Running.{runs_over_for}
use Rattle.settings_growth.proofs.newcomers.runs_of_pharmacies_go_over.Goals as goal

pub returns : goal.returns
returns c = runs_over_for
