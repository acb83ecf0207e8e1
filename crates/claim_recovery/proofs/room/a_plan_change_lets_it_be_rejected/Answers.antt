-- Rulings that pay nothing take no serial.
use Rattle.claim_recovery.proofs.UsedUp.{rejected_after}
use Rattle.claim_recovery.proofs.room.a_plan_change_lets_it_be_rejected.Goals as goal

pub returns : goal.returns
returns c = rejected_after
