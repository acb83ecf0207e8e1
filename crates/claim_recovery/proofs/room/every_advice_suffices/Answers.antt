-- A verdict on each claim is one on each that is to be priced.
use Rattle.claim_recovery.proofs.Rooms.{advice_answers}
use Rattle.claim_recovery.proofs.room.every_advice_suffices.Goals as goal

pub returns : goal.returns
returns c = advice_answers
