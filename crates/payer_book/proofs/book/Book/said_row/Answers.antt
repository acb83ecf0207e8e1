use Rattle.std.proofs.Common.{◌≡◌, ℕ, List, true, false, refl, sym, ap, ◌∙◌, subst}
use Rattle.std.specs.Prelude.{bytes_eq}
use Rattle.std.proofs.lemmas.Result.{err_from_is_err_and}
use Rattle.carried_fields.specs.Carrying.{carrying_text}
use Rattle.claim_model.specs.Words.{AcceptedStatus, Ruling}
use Rattle.claim_model.specs.Rows.{Row}
use Rattle.payer_book.specs.Added.{kept_rulings, row_saying}
use Rattle.payer_book.proofs.KeptRows.{unsaid_kept, unruled_none, kept_other, kept_stands, negated, affirmed}
use Rattle.payer_book.proofs.Replies.{new_text}
use Rattle.payer_book.proofs.book.Book.said_row.Goals as goal
use Rattle.payer_book.proofs.book.Book.said_row.Goals.{After-ne}

pub returns-in_err-said-clause-fault : goal.returns-in_err-said-clause-fault
returns-in_err-said-clause-fault c =
    let p = err_from_is_err_and c.from_residual.result c.from_residual.ensures.1 in
    rw (p.1, p.2) (λ other. unsaid_kept c.args.self.now c.args.id c.args.request.now c.args.answer.now (c.in_err-said.ensures.fault other))

pub returns-in_err-row-clause-fault : goal.returns-in_err-row-clause-fault
returns-in_err-row-clause-fault c =
    let p = err_from_is_err_and c.from_residual-in_err-row.result c.from_residual-in_err-row.ensures.1 in
    rw (p.1, p.2)
    (unruled_none c.args.self.now c.args.id c.args.request.now c.args.answer.now c.args.framed.now.header c.requires.readable _ c.in_ok-said.ensures.read
    c.rulings.result.now c.rulings.ensures _ c.in_err-row.ensures.fault)

-- the row has the rulings that the answer says
row_is : (c : After-ne) → c.in_ok-row.row ≡ row_saying c.args.self.now c.args.id c.args.request.now (kept_rulings c.args.self.now c.args.id c.args.request.now c.in_ok-said.said.rulings) c.args.answer.now
row_is c =
    c.in_ok-row.ensures.made.1
    ∙ ap (λ (said : List Ruling). row_saying c.args.self.now c.args.id c.args.request.now (kept_rulings c.args.self.now c.args.id c.args.request.now said) c.args.answer.now) c.rulings.ensures

-- its text, compared
text_is : (c : After-ne) → carrying_text c.args.framed.now.header AcceptedStatus c.in_ok-row.row.rulings c.in_ok-row.row.carried ≡ c.answer.result.now
text_is c = sym (c.answer.ensures.text ∙ new_text c.in_ok-row.row c.args.id c.args.request.now _ _ c.args.framed.now.header c.requires.readable c.in_ok-row.ensures.made.1 _ refl)

pub returns-then-ne-clause-fault : goal.returns-then-ne-clause-fault
returns-then-ne-clause-fault c = λ other.
    let d = (goal.at.returns-then-ne-clause-fault c).After-ne in
    let differs : bytes_eq c.answer.result.now c.args.answer.now ≡ false = negated _ (sym c.ne.ensures ∙ c.if-ne.true) in
    let text = ap (λ (t : List ℕ). bytes_eq t c.args.answer.now) (text_is d) ∙ differs in
    kept_other c.args.self.now c.args.id c.args.request.now c.args.answer.now c.args.framed.now.header c.requires.readable _ c.in_ok-said.ensures.read
    (subst (λ (r : Row). bytes_eq (carrying_text c.args.framed.now.header AcceptedStatus r.rulings r.carried) c.args.answer.now ≡ false) (row_is d) text)

pub returns-clause-row : goal.returns-clause-row
returns-clause-row c =
    let d = (goal.at.returns-clause-row c).After-ne in
    let same : bytes_eq c.answer.result.now c.args.answer.now ≡ true = affirmed _ (sym c.ne.ensures ∙ c.if-ne.false) in
    kept_stands c.args.self.now c.args.id c.args.request.now c.args.answer.now c.args.framed.now.header c.requires.readable _ c.in_ok-said.ensures.read
    c.in_ok-row.row (row_is d) c.in_ok-row.ensures.made.0.fit (ap (λ (t : List ℕ). bytes_eq t c.args.answer.now) (text_is d) ∙ same)
