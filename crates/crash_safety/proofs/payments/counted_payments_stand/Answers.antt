-- By the run of the disks, or of the files.
use Rattle.crash_safety.proofs.Promises.{counted_kept}
use Rattle.crash_safety.proofs.payments.counted_payments_stand.Goals as goal

pub returns : goal.returns
returns c = counted_kept
