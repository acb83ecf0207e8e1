use Rattle.claim_reports.proofs.Owned.{remit_together}
use Rattle.claim_reports.proofs.book_laws.remittance_laws.Goals as goal

pub returns-clause-together : goal.returns-clause-together
returns-clause-together c = remit_together
