-- Each stage changes one node, and of books and journals only what the request is about.
use Rattle.claim_recovery.proofs.Recoveries.{recovered_alone}
use Rattle.claim_recovery.proofs.settle.nobody_else_is_touched.Goals as goal

pub returns : goal.returns
returns c = recovered_alone
