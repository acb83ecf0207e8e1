-- By the run of the disks, and by what it goes on to.
use Rattle.crash_safety.proofs.Promises.{decisions_kept}
use Rattle.crash_safety.proofs.answers.decisions_stay.Goals as goal

pub returns : goal.returns
returns c = decisions_kept
