use Rattle.kept_records.proofs.JournalsBack.{written_back, earlier_back}
use Rattle.kept_records.proofs.journal_laws.journal_reads_back.Goals as goal

pub returns-clause-current : goal.returns-clause-current
returns-clause-current c = written_back

pub returns-clause-earlier : goal.returns-clause-earlier
returns-clause-earlier c = earlier_back
