-- Each call keeps what the promises hang on.
use Rattle.vouched_runs.proofs.Leading.{vouched_standing, vouched_counted, vouched_in_full, vouched_reversed, vouched_requests, vouched_answers, vouched_whole}
use Rattle.vouched_runs.proofs.promises.vouched_calls_keep_promises.Goals as goal

pub returns-clause-one_standing : goal.returns-clause-one_standing
returns-clause-one_standing c = vouched_standing

pub returns-clause-counted : goal.returns-clause-counted
returns-clause-counted c = vouched_counted

pub returns-clause-in_full : goal.returns-clause-in_full
returns-clause-in_full c = vouched_in_full

pub returns-clause-reversed : goal.returns-clause-reversed
returns-clause-reversed c = vouched_reversed

pub returns-clause-requests : goal.returns-clause-requests
returns-clause-requests c = vouched_requests

pub returns-clause-answers : goal.returns-clause-answers
returns-clause-answers c = vouched_answers

pub returns-clause-whole : goal.returns-clause-whole
returns-clause-whole c = vouched_whole
