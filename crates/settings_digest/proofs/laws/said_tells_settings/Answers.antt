-- Field by field.
use Rattle.settings_digest.proofs.SaidApart.{said_tells}
use Rattle.settings_digest.proofs.Keeping.{same_settings}
use Rattle.settings_digest.proofs.laws.said_tells_settings.Goals as goal

pub returns-clause-same : goal.returns-clause-same
returns-clause-same c = said_tells

pub returns-clause-digest : goal.returns-clause-digest
returns-clause-digest c = same_settings
