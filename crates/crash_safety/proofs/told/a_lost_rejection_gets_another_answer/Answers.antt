-- The story, computed.
use Rattle.crash_safety.proofs.Storied.{two_answers}
use Rattle.crash_safety.proofs.told.a_lost_rejection_gets_another_answer.Goals as goal

pub returns : goal.returns
returns c = two_answers
