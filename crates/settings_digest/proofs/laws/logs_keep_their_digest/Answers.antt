-- By its third byte.
use Rattle.settings_digest.proofs.Keeping.{turned_keeps, turned_keeps_cut, turned_keeps_new}
use Rattle.settings_digest.proofs.laws.logs_keep_their_digest.Goals as goal

pub returns-clause-text : goal.returns-clause-text
returns-clause-text c = turned_keeps

pub returns-clause-cut : goal.returns-clause-cut
returns-clause-cut c = turned_keeps_cut

pub returns-clause-new : goal.returns-clause-new
returns-clause-new c = turned_keeps_new
