use Rattle.std.proofs.Common.{◌≡◌, ◌∙◌, Bool, sym}
use Rattle.d0_header.specs.Request.{request_of}
use Rattle.claim_model.specs.Bytes.{bytes_with}
use Rattle.claim_model.specs.Readable.{is_payer, payer_for}
use Rattle.claim_model.proofs.Tests.{bytes_self}
use Rattle.payer_book.specs.Advices.{advice_seen}
use Rattle.payer_book.proofs.Replies.{answered_again, not_ours}
use Rattle.payer_book.proofs.book.Book.decide_again.Goals as goal
use Rattle.payer_book.proofs.book.Book.decide_again.Goals.{After-is_routed}

-- whether the request is for this payer
routed : (c : After-is_routed) (b : Bool) → c.is_routed.result ≡ b → is_payer c.args.self.now.payer (payer_for (bytes_with c.args.routes.now) c.args.id (request_of c.args.row.now.request)) ≡ b
routed c b e = rw (← c.payer.ensures, ← c.route_key-key.ensures.key) (sym c.is_routed.ensures ∙ e)

pub returns-then-not-is_routed-clause-fault : goal.returns-then-not-is_routed-clause-fault
returns-then-not-is_routed-clause-fault c =
    let d = (goal.at.returns-then-not-is_routed-clause-fault c).After-is_routed in
    not_ours c.args.routes.now c.args.self.now (advice_seen c.args._advice) c.args.id c.args.row.now.request (request_of c.args.row.now.request) c.route_key-key.ensures.readable (routed d _ c.if-not-is_routed.true)

pub returns-clause-decided : goal.returns-clause-decided
returns-clause-decided c =
    let d = (goal.at.returns-clause-decided c).After-is_routed in
    answered_again c.args.routes.now c.args.self.now (advice_seen c.args._advice) c.args.id c.args.row.now.request (request_of c.args.row.now.request) c.route_key-key.ensures.readable (routed d _ c.if-not-is_routed.false)
    c.args.row.now c.requires (bytes_self c.args.row.now.request)
