-- An old pharmacy is one of the grown settings too.
use Rattle.settings_growth.proofs.Growing.{for_twice}
use Rattle.settings_growth.proofs.newcomers.growth_for_pharmacies.Goals as goal

pub returns-clause-twice : goal.returns-clause-twice
returns-clause-twice c = for_twice
