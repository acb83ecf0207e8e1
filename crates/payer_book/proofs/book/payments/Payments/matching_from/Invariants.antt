use Rattle.std.proofs.Common.{◌≡◌}
use Rattle.payer_book.specs.Ledger.{standing_in}
use Rattle.payer_book.specs.Matches.{tally, matches_between}
use Rattle.payer_book.proofs.book.payments.Payments.matching_from.Given as goal

abbrev pub invariant-loop-number : goal.invariant-loop-number
invariant-loop-number l = l.matches ≡ tally (matches_between l.reversal l.changes l.first l.number (standing_in l.self.payments))
