use Rattle.std.proofs.Common.{None, Some, sym, ap, ◌∙◌}
use Rattle.std.proofs.lemmas.Bool.{cond-true, cond-false}
use Rattle.claim_model.specs.Words.{Auth}
use Rattle.payer_book.specs.Changes.{is_reversed}
use Rattle.payer_book.proofs.ruling.changes.Change.left.Goals as goal

pub returns-then-is_reversed : goal.returns-then-is_reversed
returns-then-is_reversed c =
    let is = ap (λ (a : Auth). is_reversed a c.args.later.now) (sym c.auth.ensures) ∙ (sym c.is_reversed.ensures ∙ c.if-is_reversed.true) in
    rw c.in-Pays.is (sym (cond-true (is_reversed c.in-Pays.payment.auth c.args.later.now) None (Some c.in-Pays.payment) is))

pub returns-else-is_reversed : goal.returns-else-is_reversed
returns-else-is_reversed c =
    let is = ap (λ (a : Auth). is_reversed a c.args.later.now) (sym c.auth.ensures) ∙ (sym c.is_reversed.ensures ∙ c.if-is_reversed.false) in
    rw (c.in-Pays.is) (sym (cond-false (is_reversed c.in-Pays.payment.auth c.args.later.now) None (Some c.in-Pays.payment) is))
