-- The log before the tick leads to the same node, and so does the tick.
use Rattle.settings_growth.proofs.Vain.{same_without}
use Rattle.settings_growth.proofs.ticks.such_ticks_may_be_left_out.Goals as goal

pub returns-clause-out : goal.returns-clause-out
returns-clause-out c = same_without
