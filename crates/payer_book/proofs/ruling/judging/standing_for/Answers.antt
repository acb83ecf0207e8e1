use Rattle.std.proofs.Common.{sym, ap, ◌∙◌}
use Rattle.claim_model.specs.Words.{Auth}
use Rattle.payer_book.specs.Ledger.{standing_in}
use Rattle.payer_book.specs.Changes.{is_reversed}
use Rattle.payer_book.proofs.Overlay.{stands_after, reversed_after}
use Rattle.payer_book.proofs.ruling.judging.standing_for.Goals as goal

pub returns-then-is_reversed : goal.returns-then-is_reversed
returns-then-is_reversed c =
    let ss = standing_in c.args.payments.now.payments in
    let changes = c.args.changes.now in
    let k = ap (λ (a : Auth). is_reversed a changes) (sym c.auth.ensures) ∙ (sym c.is_reversed.ensures ∙ c.if-is_reversed.true) in
    c.left_for.ensures ∙ sym (reversed_after c.args.fill.now ss changes c.in-Some.payment.now c.in-Some.ensures.ledger.fills (sym c.in-Some.ensures.value) k)

pub returns-else-is_reversed : goal.returns-else-is_reversed
returns-else-is_reversed c =
    let ss = standing_in c.args.payments.now.payments in
    let changes = c.args.changes.now in
    let k = ap (λ (a : Auth). is_reversed a changes) (sym c.auth.ensures) ∙ (sym c.is_reversed.ensures ∙ c.if-is_reversed.false) in
    sym (stands_after c.args.fill.now ss changes c.in-Some.payment.now (sym c.in-Some.ensures.value) k)
