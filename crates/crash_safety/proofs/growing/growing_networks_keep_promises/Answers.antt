-- By the run of the disks, or of the files.
use Rattle.crash_safety.proofs.Grown.{one_answer_grown, one_standing_grown, reversed_grown, counted_grown, in_full_grown}
use Rattle.crash_safety.proofs.growing.growing_networks_keep_promises.Goals as goal

pub returns-clause-one_answer : goal.returns-clause-one_answer
returns-clause-one_answer c = one_answer_grown

pub returns-clause-one_standing : goal.returns-clause-one_standing
returns-clause-one_standing c = one_standing_grown

pub returns-clause-reversed : goal.returns-clause-reversed
returns-clause-reversed c = reversed_grown

pub returns-clause-counted : goal.returns-clause-counted
returns-clause-counted c = counted_grown

pub returns-clause-in_full : goal.returns-clause-in_full
returns-clause-in_full c = in_full_grown
