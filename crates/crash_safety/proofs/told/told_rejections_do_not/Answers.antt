-- A route that is new, and a payer that rules.
use Rattle.crash_safety.proofs.Rerouted.{rejections_undone, another_answer}
use Rattle.crash_safety.proofs.told.told_rejections_do_not.Goals as goal

pub returns-clause-undecided : goal.returns-clause-undecided
returns-clause-undecided c = rejections_undone

pub returns-clause-another : goal.returns-clause-another
returns-clause-another c = another_answer
