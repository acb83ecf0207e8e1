use Rattle.kept_logs.proofs.LogsOnly.{kept_in_taken, log_in_taken}
use Rattle.kept_logs.proofs.Torn.{cut_begins}
use Rattle.kept_logs.proofs.laws.log_is_its_text.Goals as goal

pub returns-clause-text : goal.returns-clause-text
returns-clause-text c = λ digest bytes read d are h. kept_in_taken digest bytes read d (record { below = are }) h

pub returns-clause-calls : goal.returns-clause-calls
returns-clause-calls c = λ digest bytes read d are h. log_in_taken digest bytes read d (record { below = are }) h

pub returns-clause-cut : goal.returns-clause-cut
returns-clause-cut c = λ version number bytes are h. cut_begins version number bytes (record { below = are }) h
