-- The closed log leads to the node that the new one begins with.
use Rattle.log_turning.proofs.GoingOn.{goes_on, makes_all}
use Rattle.log_turning.proofs.laws.turned_logs_go_on.Goals as goal

pub returns-clause-replays : goal.returns-clause-replays
returns-clause-replays c = λ text node rest bytes turned more is. goes_on text node rest bytes turned more is

pub returns-clause-makes : goal.returns-clause-makes
returns-clause-makes c = λ text node rest bytes turned more is. makes_all text node rest bytes turned more is
