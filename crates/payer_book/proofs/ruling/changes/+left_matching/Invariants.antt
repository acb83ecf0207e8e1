use Rattle.std.proofs.Common.{length}
use Rattle.payer_book.proofs.ruling.changes.+left_matching.Given as goal

abbrev pub decreases-left_matching : goal.decreases-left_matching
decreases-left_matching l = length l.changes.now
