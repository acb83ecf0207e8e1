use Rattle.std.proofs.Common.{Some, ap, subst, ◌∙◌}
use Rattle.claim_model.specs.Rows.{Row}
use Rattle.payer_book.specs.Kept.{IsAnswered}
use Rattle.payer_book.proofs.Readings.{answered_row, answered_under}
use Rattle.payer_book.proofs.book.row.Row.answer.Goals as goal

pub returns-clause-value : goal.returns-clause-value
returns-clause-value c routes =
    let is = subst (λ (r : Row). IsAnswered r.request r.rulings r.carried c.self.inside.texts.answer) c.self.view_is c.self.invariant in
    ap (λ t. Some t) c.answer.ensures ∙ answered_row routes c.args.self.now c.self.inside.texts.answer is

pub returns-clause-row : goal.returns-clause-row
returns-clause-row c routes =
    let is = subst (λ (r : Row). IsAnswered r.request r.rulings r.carried c.self.inside.texts.answer) c.self.view_is c.self.invariant in
    ap (λ t. Some t) c.answer.ensures ∙ answered_under routes c.args.self.now c.self.inside.texts.answer is
