-- What is counted was paid, and what undid it was asked by the same pharmacy.
use Rattle.claim_model.proofs.Counting.{counted_stand}
use Rattle.claim_model.proofs.payments.counted_payments_stand.Goals as goal

pub returns : goal.returns
returns c = counted_stand
