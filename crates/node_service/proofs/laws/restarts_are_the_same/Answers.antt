-- The text of a log reads back as the log.
use Rattle.node_service.proofs.Lines.{opens_again}
use Rattle.node_service.proofs.laws.restarts_are_the_same.Goals as goal

pub returns : goal.returns
returns c = opens_again
