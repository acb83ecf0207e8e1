-- A settled entry has no phase, is never due, and hears no second answer.
use Rattle.claim_recovery.proofs.Still.{ticks_in_vain, stays_settled}
use Rattle.claim_recovery.proofs.quiet.settled_pharmacies_are_quiet.Goals as goal

pub returns-clause-ticks : goal.returns-clause-ticks
returns-clause-ticks c = ticks_in_vain

pub returns-clause-events : goal.returns-clause-events
returns-clause-events c = stays_settled
