use Rattle.payer_book.proofs.RuleRows.{row_kept, rows_kept}
use Rattle.payer_book.proofs.laws.added_rows_are_kept.Goals as goal

pub returns-clause-one : goal.returns-clause-one
returns-clause-one c = row_kept c.bytes_keep_laws.ensures

pub returns-clause-all : goal.returns-clause-all
returns-clause-all c = rows_kept c.bytes_keep_laws.ensures
