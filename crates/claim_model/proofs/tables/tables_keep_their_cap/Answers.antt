-- A request enters an id that is not there, in place of the oldest entry where there is no room.
use Rattle.claim_model.proofs.Tabled.{tables_in_flight}
use Rattle.claim_model.proofs.tables.tables_keep_their_cap.Goals as goal

pub returns : goal.returns
returns c = tables_in_flight
