-- A full book takes no new row, and an answer is decided by a row alone.
use Rattle.claim_recovery.proofs.Nevers.{full_never}
use Rattle.claim_recovery.proofs.room.full_books_never_answer.Goals as goal

pub returns : goal.returns
returns c = full_never
