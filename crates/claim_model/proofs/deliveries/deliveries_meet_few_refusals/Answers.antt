-- Packets are addressed to nodes that they are for, and say what was asked or decided.
use Rattle.claim_model.proofs.Deliverable.{deliveries_meet, adjudications_meet}
use Rattle.claim_model.proofs.deliveries.deliveries_meet_few_refusals.Goals as goal

pub returns-clause-deliveries : goal.returns-clause-deliveries
returns-clause-deliveries c = deliveries_meet

pub returns-clause-adjudications : goal.returns-clause-adjudications
returns-clause-adjudications c = adjudications_meet
