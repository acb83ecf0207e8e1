use Rattle.std.proofs.Common.{◌≡◌, ◌<◌, List, Some, map, length, slice_get, sym, ap, ◌∙◌, subst}
use Rattle.std.specs.Prelude.{find, option_and_then, IsSome}
use Rattle.claim_model.specs.Payments.{same_auth}
use Rattle.claim_model.proofs.Lists.{get_exists}
use Rattle.payer_book.specs.declared.book.payment.Standing.{Standing}
use Rattle.payer_book.specs.declared.book.payment.Payment.{Payment}
use Rattle.payer_book.specs.declared.book.payment.Payment.TheVariants.{Standing as Stands}
use Rattle.payer_book.specs.Ledger.{Ledger, still, standing_in, payment_with, after_reversal}
use Rattle.payer_book.proofs.Lists.{none_some}
use Rattle.payer_book.proofs.Numbering.{none_stands, reversed_stands_not}
use Rattle.payer_book.proofs.PaymentIndex.{less_by, indexed_less, reversed_list, still_at, auth_at}
use Rattle.payer_book.proofs.book.payments.Payments.reverse.Goals as goal
use Rattle.payer_book.proofs.book.payments.Payments.reverse.Goals.{After-self-1}

there : (c : After-self-1) → slice_get c.self.inside.list.items c.in-Some.place ≡ Some (Stands c.in-Some-standing_at.payment.now)
there c = still_at _ _ (sym (c.in-Some-standing_at.ensures ∙ ap (λ (ps : List Payment). option_and_then still (slice_get ps c.in-Some.place)) c.deref.ensures.value))

paid : (c : After-self-1) → payment_with c.args.auth c.self.inside.list.items ≡ Some (Stands c.in-Some-standing_at.payment.now)
paid c = sym (subst (λ (l : Ledger). slice_get l.payments c.in-Some.place ≡ payment_with c.args.auth l.payments) (sym c.self.view_is) c.in-Some.ensures.1) ∙ there c

pub returns-in_default-clause-payments : goal.returns-in_default-clause-payments
returns-in_default-clause-payments c = absurd (none_some _ (none_stands c.args.auth c.args.self.now.payments c.in_default.ensures) c.requires)

pub invariant_of-self : goal.invariant_of-self
invariant_of-self c =
    let s : Standing = c.in-Some-standing_at.payment.now in
    rw (c.reverse.ensures, c.copy.ensures)
    (indexed_less c.self.inside.payer c.self.inside.first c.self.inside.numbers c.self.inside.list.items _ _ c.args.auth c.args.by s c.in-Some.place c.self.invariant (there c) (auth_at c.args.auth c.self.inside.list.items s (paid c))
    (less_by s c.claim.result.now.fill _ _ (ap (λ x. x.fill) c.claim.ensures) c.remove.ensures.less))

pub returns-in-Some-standing_at-clause-payments : goal.returns-in-Some-standing_at-clause-payments
returns-in-Some-standing_at-clause-payments c =
    let s : Standing = c.in-Some-standing_at.payment.now in
    let less = less_by s c.claim.result.now.fill _ _ (ap (λ x. x.fill) c.claim.ensures) c.remove.ensures.less in
    rw (c.reverse.ensures, c.copy.ensures)
    (reversed_list c.self.inside.payer c.self.inside.first c.self.inside.numbers c.self.inside.list.items _ _ c.args.auth c.args.by s c.in-Some.place c.self.invariant (there c) (auth_at c.args.auth c.self.inside.list.items s (paid c)) less
    ∙ ap (λ (l : Ledger). map (after_reversal c.args.auth c.args.by) l.payments) c.self.view_is)

pub returns-in_default-standing_at-clause-payments : goal.returns-in_default-standing_at-clause-payments
returns-in_default-standing_at-clause-payments c =
    let ps : List Payment = c.self.inside.list.items in
    let in_list = subst (λ (l : Ledger). c.in-Some.place < length l.payments) (sym c.self.view_is) c.in-Some.ensures.0 in
    let p = get_exists ps c.in-Some.place in_list in
    let found = sym (subst (λ (l : Ledger). slice_get l.payments c.in-Some.place ≡ payment_with c.args.auth l.payments) (sym c.self.view_is) c.in-Some.ensures.1) ∙ p.1 in
    let not = ap (option_and_then still) (sym p.1) ∙ sym (c.in_default-standing_at.ensures ∙ ap (λ (xs : List Payment). option_and_then still (slice_get xs c.in-Some.place)) c.deref.ensures.value) in
    let requires = subst (λ (l : Ledger). IsSome (find (λ (s : Standing). same_auth s.auth c.args.auth) (standing_in l.payments))) (sym c.self.view_is) c.requires in
    absurd (none_some _ (reversed_stands_not c.self.inside.payer c.self.inside.first c.args.auth ps p.0 c.self.invariant.numbered found not) requires)
