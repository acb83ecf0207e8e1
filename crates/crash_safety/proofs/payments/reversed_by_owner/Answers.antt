-- By the run of the disks, or of the files.
use Rattle.crash_safety.proofs.Promises.{reversed_kept}
use Rattle.crash_safety.proofs.payments.reversed_by_owner.Goals as goal

pub returns : goal.returns
returns c = reversed_kept
