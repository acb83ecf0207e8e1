-- By the run of the disks, or of the files.
use Rattle.crash_safety.proofs.Promises.{one_standing_kept}
use Rattle.crash_safety.proofs.payments.one_standing_payment.Goals as goal

pub returns : goal.returns
returns c = one_standing_kept
