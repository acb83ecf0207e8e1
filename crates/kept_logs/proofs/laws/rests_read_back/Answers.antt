use Rattle.kept_logs.proofs.RestsBack.{rest_back, begins_back, calls_back, references_back}
use Rattle.kept_logs.proofs.laws.rests_read_back.Goals as goal

pub returns-clause-reads : goal.returns-clause-reads
returns-clause-reads c = rest_back

pub returns-clause-begins : goal.returns-clause-begins
returns-clause-begins c = begins_back

pub returns-clause-calls : goal.returns-clause-calls
returns-clause-calls c = calls_back

pub returns-clause-references : goal.returns-clause-references
returns-clause-references c = references_back
