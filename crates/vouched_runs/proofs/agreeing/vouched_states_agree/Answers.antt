-- What each node says by itself stays so, and firm parties agree.
use Rattle.vouched_runs.proofs.Staying.{vouched_agreeing, agreeing_on}
use Rattle.vouched_runs.proofs.agreeing.vouched_states_agree.Goals as goal

pub returns-clause-vouched : goal.returns-clause-vouched
returns-clause-vouched c = vouched_agreeing

pub returns-clause-on : goal.returns-clause-on
returns-clause-on c = agreeing_on
