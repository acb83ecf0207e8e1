-- One recovery after another: each takes of a book what the premise had counted for it.
use Rattle.claim_recovery.proofs.AllTogether.{all_recovered}
use Rattle.claim_recovery.proofs.everyone.all_open_entries_recover.Goals as goal

pub returns : goal.returns
returns c = all_recovered
