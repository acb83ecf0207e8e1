use Rattle.std.proofs.Common.{◌≡◌, ◌+◌, ◌<◌, ◌≤◌, List, None, length, sym, ap, subst, arith}
use Rattle.claim_model.specs.Words.{Claim}
use Rattle.payer_book.specs.declared.book.payment.Payment.{Payment}
use Rattle.payer_book.specs.Ledger.{Ledger, standing_in, standing_of}
use Rattle.payer_book.proofs.Numbering.{numbered}
use Rattle.payer_book.proofs.PaymentIndex.{index_none, more_by, indexed_more}
use Rattle.payer_book.proofs.book.payments.Payments.push.Goals as goal

pub insert-requires-clause-none : goal.insert-requires-clause-none
insert-requires-clause-none c =
    let none = subst (λ (l : Ledger). standing_of c.args.payment.claim.fill (standing_in l.payments) ≡ None) (sym c.self.view_is) c.requires.none in
    rw c.claim-2.ensures (index_none _ _ _ c.self.inside.list.items _ c.self.invariant c.args.payment.claim.fill none)

pub invariant_of-self : goal.invariant_of-self
invariant_of-self c =
    let ps : List Payment = c.self.inside.list.items in
    let auth = subst (λ (l : Ledger). c.args.payment.auth ≡ numbered l.payer (l.first + length l.payments)) (sym c.self.view_is) c.requires.auth in
    let none = subst (λ (l : Ledger). standing_of c.args.payment.claim.fill (standing_in l.payments) ≡ None) (sym c.self.view_is) c.requires.none in
    let at : c.len-place.result ≡ length ps = omega (arith, c.len-place.ensures, c.self.inside.list.ok.0) in
    let number = c.requires.number in
    let above = c.above-self-inside in
    let same = ap (λ (x : Claim). x.fill.fill) c.claim.ensures in
    let few : above.result ≤ 100 = above.ensures.most c.self.invariant.few (omega (arith, number, same)) in
    let below : c.args.payment.claim.fill.fill < above.result = omega (arith, above.ensures.number, same) in
    rw c.push_reserved.ensures.items
    (indexed_more c.self.inside.payer c.self.inside.first c.self.inside.numbers above.result ps _ _ c.args.payment c.self.invariant auth few above.ensures.others below none
    (more_by ps c.args.payment c.claim-2.result.now.fill c.len-place.result _ _ (ap (λ x. x.fill) c.claim-2.ensures) at c.insert.ensures.more))
