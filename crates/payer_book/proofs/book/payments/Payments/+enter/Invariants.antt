use Rattle.std.proofs.Common.{length}
use Rattle.payer_book.proofs.book.payments.Payments.+enter.Given as goal

abbrev pub decreases-enter : goal.decreases-enter
decreases-enter l = length l.changes.now
