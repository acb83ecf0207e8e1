-- Each of its rulings finds a serial, and the book has a place for its row.
use Rattle.claim_recovery.proofs.Rooms.{room_answers}
use Rattle.claim_recovery.proofs.room.room_and_serials_suffice.Goals as goal

pub returns : goal.returns
returns c = room_answers
