-- By the events of the run, one after another.
use Rattle.claim_model.proofs.Replaying.{replays, absent_stays}
use Rattle.claim_model.proofs.replays.logs_replay.Goals as goal

pub returns-clause-there : goal.returns-clause-there
returns-clause-there c = replays

pub returns-clause-absent : goal.returns-clause-absent
returns-clause-absent c = absent_stays
