-- The pharmacy sends, the switch passes on, the payer answers, and the answer comes home.
use Rattle.claim_recovery.proofs.Recoveries.{recovered}
use Rattle.claim_recovery.proofs.settle.open_entries_recover.Goals as goal

pub returns : goal.returns
returns c = recovered
