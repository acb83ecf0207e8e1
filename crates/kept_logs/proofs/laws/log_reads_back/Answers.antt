use Rattle.kept_logs.proofs.LogsBack.{reads_back, reads_short, reads_whole}
use Rattle.kept_logs.proofs.laws.log_reads_back.Goals as goal

pub returns-clause-cut : goal.returns-clause-cut
returns-clause-cut c = reads_back

pub returns-clause-short : goal.returns-clause-short
returns-clause-short c = reads_short

pub returns-clause-whole : goal.returns-clause-whole
returns-clause-whole c = reads_whole
