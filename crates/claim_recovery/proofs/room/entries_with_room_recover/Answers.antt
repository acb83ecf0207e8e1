-- Room in the book of the route is all that its answer needs.
use Rattle.claim_recovery.proofs.Rooms.{recovered_with_room}
use Rattle.claim_recovery.proofs.room.entries_with_room_recover.Goals as goal

pub returns : goal.returns
returns c = recovered_with_room
