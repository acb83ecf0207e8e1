use Rattle.node_logged.proofs.Agreeing.{agree}
use Rattle.node_logged.proofs.laws.ledgers_are_the_worlds.Goals as goal

pub returns : goal.returns
returns c = agree
