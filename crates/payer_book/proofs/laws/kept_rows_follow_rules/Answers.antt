use Rattle.payer_book.proofs.RuleRows.{added_stands, follows_added}
use Rattle.payer_book.proofs.laws.kept_rows_follow_rules.Goals as goal

pub returns-clause-only : goal.returns-clause-only
returns-clause-only c = added_stands c.bytes_keep_laws.ensures

pub returns-clause-each : goal.returns-clause-each
returns-clause-each c = follows_added c.bytes_keep_laws.ensures
