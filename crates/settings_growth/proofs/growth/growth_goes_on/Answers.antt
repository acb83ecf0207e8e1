-- Node by node.
use Rattle.settings_growth.proofs.Growing.{grows_itself, grows_on}
use Rattle.settings_growth.proofs.growth.growth_goes_on.Goals as goal

pub returns-clause-same : goal.returns-clause-same
returns-clause-same c = grows_itself

pub returns-clause-twice : goal.returns-clause-twice
returns-clause-twice c = grows_on
