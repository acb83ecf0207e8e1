-- The phase moves on by one at each tick, and comes to the first phase of each place.
use Rattle.claim_recovery.proofs.InTurn.{sent_in_turn}
use Rattle.claim_recovery.proofs.turns.listed_switches_get_their_turn.Goals as goal

pub returns : goal.returns
returns c = sent_in_turn
