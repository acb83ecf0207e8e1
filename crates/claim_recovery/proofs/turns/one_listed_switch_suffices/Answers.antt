-- The ticks go on until the turn of the switch that is up.
use Rattle.claim_recovery.proofs.Recoveries.{recovered_through}
use Rattle.claim_recovery.proofs.turns.one_listed_switch_suffices.Goals as goal

pub returns : goal.returns
returns c = recovered_through
