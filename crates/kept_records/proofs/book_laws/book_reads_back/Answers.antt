use Rattle.kept_records.proofs.BookTexts.{reads_back, reads_back_single}
use Rattle.kept_records.proofs.book_laws.book_reads_back.Goals as goal

pub returns-clause-current : goal.returns-clause-current
returns-clause-current c = reads_back

pub returns-clause-earlier : goal.returns-clause-earlier
returns-clause-earlier c = reads_back_single
