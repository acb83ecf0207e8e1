use Rattle.std.proofs.Common.{length}
use Rattle.payer_book.proofs.ruling.changes.+left_for.Given as goal

abbrev pub decreases-left_for : goal.decreases-left_for
decreases-left_for l = length l.changes.now
