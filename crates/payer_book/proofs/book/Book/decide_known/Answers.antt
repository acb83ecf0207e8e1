use Rattle.std.proofs.Common.{List, ℕ, sym, ap, ◌∙◌}
use Rattle.std.specs.Prelude.{bytes_eq}
use Rattle.payer_book.specs.Advices.{advice_seen}
use Rattle.payer_book.proofs.Replies.{unreadable, reused, not_ours}
use Rattle.payer_book.proofs.book.Book.decide_known.Goals as goal

pub returns-in-None-clause-fault : goal.returns-in-None-clause-fault
returns-in-None-clause-fault c = unreadable c.args.routes.now c.args.self.now (advice_seen c.args.advice) c.args.id c.args.request.now c.in-None.ensures.readable

pub returns-then-not-leads_to-clause-fault : goal.returns-then-not-leads_to-clause-fault
returns-then-not-leads_to-clause-fault c =
    not_ours c.args.routes.now c.args.self.now (advice_seen c.args.advice) c.args.id c.args.request.now c.in-Some.framed.header c.in-Some.ensures.readable
    (rw (← c.payer.ensures, ← c.header.ensures) (sym c.leads_to.ensures ∙ c.if-not-leads_to.true))

pub returns-clause-fault : goal.returns-clause-fault
returns-clause-fault c =
    reused c.args.routes.now c.args.self.now (advice_seen c.args.advice) c.args.id c.args.request.now c.in-Some.framed.header c.in-Some.ensures.readable
    (rw (← c.payer.ensures, ← c.header.ensures) (sym c.leads_to.ensures ∙ c.if-not-leads_to.false)) c.args.row.now c.requires
    (ap (λ (t : List ℕ). bytes_eq t c.args.request.now) (sym c.request.ensures) ∙ (sym c.eq.ensures ∙ c.if-eq.false))
