use Rattle.kept_records.proofs.JournalsApart.{same_text, same_written}
use Rattle.kept_records.proofs.journal_laws.journals_share_no_text.Goals as goal

pub returns-clause-parts : goal.returns-clause-parts
returns-clause-parts c = same_text

pub returns-clause-whole : goal.returns-clause-whole
returns-clause-whole c = same_written
