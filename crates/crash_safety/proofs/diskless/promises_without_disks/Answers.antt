-- Beside a network in which switches have disks.
use Rattle.crash_safety.proofs.Lightness.{one_answer_here, one_standing_here, reversed_here, counted_here, in_full_here, one_answer_later_here, decisions_here, requests_here, answers_here}
use Rattle.crash_safety.proofs.diskless.promises_without_disks.Goals as goal

pub returns-clause-one_answer : goal.returns-clause-one_answer
returns-clause-one_answer c = one_answer_here

pub returns-clause-one_standing : goal.returns-clause-one_standing
returns-clause-one_standing c = one_standing_here

pub returns-clause-reversed : goal.returns-clause-reversed
returns-clause-reversed c = reversed_here

pub returns-clause-counted : goal.returns-clause-counted
returns-clause-counted c = counted_here

pub returns-clause-in_full : goal.returns-clause-in_full
returns-clause-in_full c = in_full_here

pub returns-clause-one_answer_later : goal.returns-clause-one_answer_later
returns-clause-one_answer_later c = one_answer_later_here

pub returns-clause-stays : goal.returns-clause-stays
returns-clause-stays c = decisions_here

pub returns-clause-requests : goal.returns-clause-requests
returns-clause-requests c = requests_here

pub returns-clause-answers : goal.returns-clause-answers
returns-clause-answers c = answers_here
