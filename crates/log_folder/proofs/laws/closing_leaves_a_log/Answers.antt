-- The one or the other, at each moment of the plan.
use Rattle.log_folder.proofs.Dying.{one_or_the_other}
use Rattle.log_folder.proofs.laws.closing_leaves_a_log.Goals as goal

pub returns : goal.returns
returns c = one_or_the_other
