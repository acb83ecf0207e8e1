-- What is in memory was decided on the disks.
use Rattle.crash_safety.proofs.Telling.{told_for_good, told_for_good_here}
use Rattle.crash_safety.proofs.told.told_answers_are_final.Goals as goal

pub returns-clause-disks : goal.returns-clause-disks
returns-clause-disks c = told_for_good

pub returns-clause-here : goal.returns-clause-here
returns-clause-here c = told_for_good_here
