use Rattle.std.proofs.Common.{List, None, Some, slice_get, sym, ap, ◌∙◌, subst}
use Rattle.std.specs.Prelude.{option_and_then}
use Rattle.payer_book.specs.declared.book.payment.Payment.{Payment}
use Rattle.payer_book.specs.Ledger.{Ledger, IsLedger, still, standing_in, standing_of}
use Rattle.payer_book.proofs.PaymentIndex.{index_finds, index_ledger}
use Rattle.payer_book.proofs.book.payments.Payments.standing_of.Goals as goal

pub returns-in-Some-clause-value : goal.returns-in-Some-clause-value
returns-in-Some-clause-value c =
    c.standing_at.ensures ∙ ap (λ (ps : List Payment). option_and_then still (slice_get ps c.in-Some.place)) c.deref.ensures.value
    ∙ index_finds _ _ _ c.self.inside.list.items _ c.self.invariant c.args.fill.now (Some c.in-Some.place) (sym c.in-Some.ensures)
    ∙ ap (λ (l : Ledger). standing_of c.args.fill.now (standing_in l.payments)) c.self.view_is

pub returns-in-Some-clause-ledger : goal.returns-in-Some-clause-ledger
returns-in-Some-clause-ledger c = subst IsLedger c.self.view_is (index_ledger _ _ _ _ _ _ c.self.invariant)

pub returns-in-None-clause-value : goal.returns-in-None-clause-value
returns-in-None-clause-value c =
    index_finds _ _ _ c.self.inside.list.items _ c.self.invariant c.args.fill.now None (sym c.in-None.ensures)
    ∙ ap (λ (l : Ledger). standing_of c.args.fill.now (standing_in l.payments)) c.self.view_is

pub returns-in-None-clause-ledger : goal.returns-in-None-clause-ledger
returns-in-None-clause-ledger c = subst IsLedger c.self.view_is (index_ledger _ _ _ _ _ _ c.self.invariant)
