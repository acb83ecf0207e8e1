use Rattle.std.proofs.Common.{subst}
use Rattle.payer_book.specs.Ledger.{IsLedger}
use Rattle.payer_book.proofs.PaymentIndex.{index_ledger}
use Rattle.payer_book.proofs.book.payments.Payments.len.Goals as goal

pub returns-clause-ledger : goal.returns-clause-ledger
returns-clause-ledger c = subst IsLedger c.self.view_is (index_ledger _ _ _ _ _ _ c.self.invariant)
