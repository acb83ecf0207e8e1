-- Each packet of a run says what was submitted or decided, and pharmacies and payers do by themselves what they do in a world.
use Rattle.vouched_runs.proofs.Running.{runs_on}
use Rattle.vouched_runs.proofs.days.runs_are_vouched.Goals as goal

pub returns-clause-on : goal.returns-clause-on
returns-clause-on c = runs_on
