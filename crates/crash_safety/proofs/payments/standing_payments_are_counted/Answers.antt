-- By the run of the disks, or of the files.
use Rattle.crash_safety.proofs.Promises.{in_full_kept}
use Rattle.crash_safety.proofs.payments.standing_payments_are_counted.Goals as goal

pub returns : goal.returns
returns c = in_full_kept
