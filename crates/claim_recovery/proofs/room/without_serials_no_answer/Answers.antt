-- Without a serial no new row pays, so no fill gains a payment, and no row of this request fits.
use Rattle.claim_recovery.proofs.UsedUp.{used_never}
use Rattle.claim_recovery.proofs.room.without_serials_no_answer.Goals as goal

pub returns : goal.returns
returns c = used_never
