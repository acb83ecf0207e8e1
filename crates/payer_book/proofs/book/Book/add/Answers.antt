use Rattle.std.proofs.Common.{◌≡◌, Some, sym, ap, ◌∙◌}
use Rattle.std.proofs.lemmas.Result.{on_ok_weaker, IfErr-weaker}
use Rattle.claim_model.specs.Rows.{Book}
use Rattle.payer_book.specs.Added.{with_kept, added}
use Rattle.payer_book.proofs.KeptRows.{not_taken, taken}
use Rattle.payer_book.proofs.book.Book.add.Goals as goal
use Rattle.payer_book.proofs.book.Book.add.Goals.{After-lend_draft-draft}

pub returns-then-not-takes-clause-fault : goal.returns-then-not-takes-clause-fault
returns-then-not-takes-clause-fault c = λ other. not_taken c.args.self.now c.args.id c.args.request.now c.args.answer.now (sym c.takes.ensures ∙ c.if-not-takes.true)

-- there is room for a new row, so what is added is what the answer gives
stands_by : (c : After-lend_draft-draft) → added c.args.self.now c.args.id c.args.request.now c.args.answer.now ≡ with_kept c.lend_draft-draft.new.self c.args.id c.args.request.now c.args.answer.now
stands_by c =
    taken c.args.self.now c.args.id c.args.request.now c.args.answer.now (sym c.takes.ensures ∙ c.if-not-takes.false)
    ∙ ap (λ (b : Book). with_kept b c.args.id c.args.request.now c.args.answer.now) (sym c.lend_draft-draft.ensures)

pub returns-clause-ok : goal.returns-clause-ok
returns-clause-ok c =
    let s = stands_by (goal.at.returns-clause-ok c).After-lend_draft-draft in
    on_ok_weaker c.add_new-result.result (λ e. s ∙ (e ∙ ap (λ (b : Book). Some b) (sym c.keep_draft.ensures))) c.add_new-result.ensures.ok

pub returns-clause-fault : goal.returns-clause-fault
returns-clause-fault c =
    let s = stands_by (goal.at.returns-clause-fault c).After-lend_draft-draft in
    IfErr-weaker c.add_new-result.result _ _ (λ f none other. s ∙ none other) c.add_new-result.ensures.fault
