use Rattle.std.proofs.Common.{◌≡◌, ◌<◌, ◌≤◌, ◌⊎◌, Bool, true, false, length, None, Err, inl, inr, refl, sym, ap, ◌∙◌, subst, arith}
use Rattle.std.specs.Prelude.{List, []}
use Rattle.std.specs.List.{list_all}
use Rattle.std.proofs.lemmas.Bool.{le-ltb, lt-ltb}
use Rattle.std.proofs.lemmas.Result.{err_from_is_err_and}
use Rattle.carried_fields.specs.Carrying.{carrying_text}
use Rattle.payer_book.specs.Advices.{advice_seen, given}
use Rattle.claim_model.specs.Words.{RequestHeader, AcceptedStatus}
use Rattle.claim_model.specs.Bytes.{bytes_with}
use Rattle.claim_model.specs.Readable.{is_payer, payer_for}
use Rattle.claim_model.specs.declared.refusal.Refusal.{Refusal}
use Rattle.claim_model.specs.declared.refusal.Fault.{Fault}
use Rattle.claim_model.specs.Refusal.{refusal_of, IsRefused}
use Rattle.claim_model.specs.declared.refusal.Fault.TheVariants.{OutOfMemory, Refused}
use Rattle.claim_model.specs.Rows.{Row, Book}
use Rattle.claim_model.specs.Book.{serial_fits, row_of, new_row, has_verdicts, answered}
use Rattle.payer_book.specs.declared.ruling.changes.Change.{Change}
use Rattle.payer_book.specs.Added.{kept_answer}
use Rattle.payer_book.specs.Drafts.{Pricing, pricing, pricing_of}
use Rattle.bin_routes.specs.Table.{routes_of}
use Rattle.payer_book.specs.Entries.{rulings_by, row_by, IsEntry}
use Rattle.payer_book.specs.Deciding.{IsNew}
use Rattle.payer_book.proofs.Replies.{unreadable, not_ours, full, used_up, unadvised_new, new_text, answered_new}
use Rattle.payer_book.proofs.Entered.{has_verdicts_on, row_alike}
use Rattle.payer_book.proofs.book.Book.decide_new.Goals as goal
use Rattle.payer_book.proofs.book.Book.decide_new.Goals.{After-leads_to}

-- the book as it stands
abbrev opened : (c : After-leads_to) → Book
opened c = record { payer = c.self.inside.payer; settings = c.self.inside.settings; plan = c.self.inside.plan; rows = c.self.inside.rows }

-- whether the request is for this payer
routed : (c : After-leads_to) (b : Bool) → c.leads_to.result ≡ b → is_payer c.self.inside.payer (payer_for (bytes_with c.args.routes.now) c.args.id c.in-Some.framed.header) ≡ b
routed c b e = ap (λ (h : RequestHeader). is_payer c.self.inside.payer (payer_for (bytes_with c.args.routes.now) c.args.id h)) (sym c.header.ensures) ∙ (sym c.leads_to.ensures ∙ e)

-- no row has the id
fresh : (c : After-leads_to) → row_of c.args.id (opened c).rows ≡ None
fresh c = subst (λ (b : Book). row_of c.args.id b.rows ≡ None) (sym c.self.view_is) c.requires.fresh

pub returns-in-None-clause-fault : goal.returns-in-None-clause-fault
returns-in-None-clause-fault c = unreadable c.args.routes.now c.args.self.now (advice_seen c.args.advice) c.args.id c.args.request.now c.in-None.ensures.readable

pub returns-then-not-leads_to-clause-fault : goal.returns-then-not-leads_to-clause-fault
returns-then-not-leads_to-clause-fault c =
    let d = (goal.at.returns-then-not-leads_to-clause-fault c).After-leads_to in
    subst (λ (b : Book). answered (bytes_with c.args.routes.now) b (advice_seen c.args.advice) c.args.id c.args.request.now ≡ Err Refusal.NotOurs) c.self.view_is
    (not_ours c.args.routes.now (opened d) (advice_seen c.args.advice) c.args.id c.args.request.now c.in-Some.framed.header c.in-Some.ensures.readable (routed d false c.if-not-leads_to.true))

pub returns-then-len-cap-clause-fault : goal.returns-then-len-cap-clause-fault
returns-then-len-cap-clause-fault c =
    let d = (goal.at.returns-then-len-cap-clause-fault c).After-leads_to in
    let cap : c.self.inside.settings.cap ≤ length c.self.inside.rows = omega (arith, c.len.ensures, c.cap.ensures.value) in
    subst (λ (b : Book). answered (bytes_with c.args.routes.now) b (advice_seen c.args.advice) c.args.id c.args.request.now ≡ Err Refusal.BookFull) c.self.view_is
    (full c.args.routes.now (opened d) (advice_seen c.args.advice) c.args.id c.args.request.now c.in-Some.framed.header c.in-Some.ensures.readable (routed d true c.if-not-leads_to.false)
    (fresh d) (le-ltb (length c.self.inside.rows) c.self.inside.settings.cap cap))

module _ (c : After-leads_to) (ours : c.leads_to.result ≡ true) (room : length c.self.inside.rows < c.self.inside.settings.cap) where
  abbrev own : Pricing
  own = pricing_of (opened c) (advice_seen c.args.advice)

  -- a fault of the new row is a refusal of the request
  refused : (prices : Pricing) → prices ≡ pricing_of c.args.self.now (advice_seen c.args.advice) → (f : Fault) → (f ≡ OutOfMemory) ⊎ ((f ≡ Refused Refusal.SerialsUsedUp) × (list_all serial_fits (rulings_by prices c.args.self.now c.args.id c.args.request.now) ≡ false))
      → IsRefused (refusal_of f) (answered (bytes_with c.args.routes.now) c.args.self.now (advice_seen c.args.advice) c.args.id c.args.request.now)
  refused prices is f (inl e) = subst (λ (g : Fault). IsRefused (refusal_of g) (answered (bytes_with c.args.routes.now) c.args.self.now (advice_seen c.args.advice) c.args.id c.args.request.now)) (sym e) tt
  refused prices is f (inr e) =
      let unfit : list_all serial_fits (rulings_by (pricing_of c.args.self.now (advice_seen c.args.advice)) c.args.self.now c.args.id c.args.request.now) ≡ false =
      subst (λ (p : Pricing). list_all serial_fits (rulings_by p c.args.self.now c.args.id c.args.request.now) ≡ false) is e.1 in
      let unfit_here : list_all serial_fits (rulings_by own (opened c) c.args.id c.args.request.now) ≡ false =
      subst (λ (b : Book). list_all serial_fits (rulings_by (pricing_of b (advice_seen c.args.advice)) b c.args.id c.args.request.now) ≡ false) (sym c.self.view_is) unfit in
      subst (λ (g : Fault). IsRefused (refusal_of g) (answered (bytes_with c.args.routes.now) c.args.self.now (advice_seen c.args.advice) c.args.id c.args.request.now)) (sym e.0)
      (subst (λ (b : Book). answered (bytes_with c.args.routes.now) b (advice_seen c.args.advice) c.args.id c.args.request.now ≡ Err Refusal.SerialsUsedUp) c.self.view_is
      (used_up c.args.routes.now (opened c) (advice_seen c.args.advice) c.args.id c.args.request.now c.in-Some.framed.header c.in-Some.ensures.readable (routed c true ours)
      (fresh c) (lt-ltb (length c.self.inside.rows) c.self.inside.settings.cap room) (row_by own (opened c) c.args.id c.args.request.now (given c.args.advice.text.now))
      (row_alike c.args.routes.now (opened c) c.self.inside.payments c.self.invariant.0 (advice_seen c.args.advice) c.args.id c.args.request.now) unfit_here))

  module _ (prices : Pricing) (is : prices ≡ pricing_of c.args.self.now (advice_seen c.args.advice)) (row : Row) (changes : List Change)
      (made : IsEntry c.args.self.now row changes × (row ≡ row_by prices c.args.self.now c.args.id c.args.request.now (given c.args.advice.text.now))) where
    row_here : row ≡ row_by own (opened c) c.args.id c.args.request.now (given c.args.advice.text.now)
    row_here =
        subst (λ (b : Book). row ≡ row_by (pricing_of b (advice_seen c.args.advice)) b c.args.id c.args.request.now (given c.args.advice.text.now)) (sym c.self.view_is)
        (made.1 ∙ ap (λ (p : Pricing). row_by p c.args.self.now c.args.id c.args.request.now (given c.args.advice.text.now)) is)

    alike : row ≡ new_row (bytes_with c.args.routes.now) (opened c) (advice_seen c.args.advice) c.args.id c.args.request.now
    alike = row_here ∙ row_alike c.args.routes.now (opened c) c.self.inside.payments c.self.invariant.0 (advice_seen c.args.advice) c.args.id c.args.request.now

    entry : IsEntry (opened c) row changes
    entry = subst (λ (b : Book). IsEntry b row changes) (sym c.self.view_is) made.0

    -- whether it is advised does not hang on the routes
    verdicts : (t : Bool) → t ≡ has_verdicts (bytes_with (routes_of [])) c.args.self.now (advice_seen c.args.advice) c.args.id c.args.request.now → t ≡ has_verdicts (bytes_with c.args.routes.now) (opened c) (advice_seen c.args.advice) c.args.id c.args.request.now
    verdicts t e =
        subst (λ (b : Book). t ≡ has_verdicts (bytes_with (routes_of [])) b (advice_seen c.args.advice) c.args.id c.args.request.now) (sym c.self.view_is) e
        ∙ (sym (has_verdicts_on (routes_of []) (opened c) c.self.inside.payments c.self.invariant.0 (advice_seen c.args.advice) c.args.id c.args.request.now)
        ∙ has_verdicts_on c.args.routes.now (opened c) c.self.inside.payments c.self.invariant.0 (advice_seen c.args.advice) c.args.id c.args.request.now)

    -- a row that lacks a verdict
    lacks : has_verdicts (bytes_with c.args.routes.now) (opened c) (advice_seen c.args.advice) c.args.id c.args.request.now ≡ false
        → answered (bytes_with c.args.routes.now) c.args.self.now (advice_seen c.args.advice) c.args.id c.args.request.now ≡ Err Refusal.NotAdvised
    lacks none =
        subst (λ (b : Book). answered (bytes_with c.args.routes.now) b (advice_seen c.args.advice) c.args.id c.args.request.now ≡ Err Refusal.NotAdvised) c.self.view_is
        (unadvised_new c.args.routes.now (opened c) (advice_seen c.args.advice) c.args.id c.args.request.now c.in-Some.framed.header c.in-Some.ensures.readable (routed c true ours)
        (fresh c) (lt-ltb (length c.self.inside.rows) c.self.inside.settings.cap room) row alike entry.fit none)

    -- the new row answers the request
    is_new : has_verdicts (bytes_with c.args.routes.now) (opened c) (advice_seen c.args.advice) c.args.id c.args.request.now ≡ true
        → IsNew (bytes_with c.args.routes.now) c.args.self.now (advice_seen c.args.advice) c.args.id c.args.request.now row changes
    is_new all =
        let bytes = carrying_text c.in-Some.framed.header AcceptedStatus row.rulings row.carried in
        let text : kept_answer row ≡ bytes = new_text row c.args.id c.args.request.now _ _ c.in-Some.framed.header c.in-Some.ensures.readable row_here bytes refl in
        subst (λ (b : Book). IsNew (bytes_with c.args.routes.now) b (advice_seen c.args.advice) c.args.id c.args.request.now row changes) c.self.view_is
        (record {
          entry = entry;
          room = room;
          fresh = ap (λ (r : Row). row_of r.id c.self.inside.rows) row_here ∙ fresh c;
          ruled = answered_new c.args.routes.now (opened c) (advice_seen c.args.advice) c.args.id c.args.request.now c.in-Some.framed.header c.in-Some.ensures.readable (routed c true ours)
              (fresh c) (lt-ltb (length c.self.inside.rows) c.self.inside.settings.cap room) row alike (kept_answer row) entry.fit all text;
        })

pub returns-in_err-row-clause-fault : goal.returns-in_err-row-clause-fault
returns-in_err-row-clause-fault c =
    let d = (goal.at.returns-in_err-row-clause-fault c).After-leads_to in
    let room : length c.self.inside.rows < c.self.inside.settings.cap = omega (arith, c.len.ensures, c.cap.ensures.value, c.if-len-cap.false) in
    let p = err_from_is_err_and c.from_residual.result c.from_residual.ensures.1 in
    rw (p.1, p.2) (refused d c.if-not-leads_to.false room (pricing c.prices-prices.result) c.prices-prices.ensures.pricing _ c.in_err-row.ensures.fault)

pub returns-then-draft-clause-decided : goal.returns-then-draft-clause-decided
returns-then-draft-clause-decided c =
    let d = (goal.at.returns-then-draft-clause-decided c).After-leads_to in
    let room : length c.self.inside.rows < c.self.inside.settings.cap = omega (arith, c.len.ensures, c.cap.ensures.value, c.if-len-cap.false) in
    let own = c.prices-prices.ensures.pricing in
    is_new d c.if-not-leads_to.false room (pricing c.prices-prices.result) own c.in_ok-row.row c.prepare.new.draft.changes.items (c.in_ok-row.ensures.made.0, c.in_ok-row.ensures.made.1 ∙ ap (row_by (pricing c.prices-prices.result) c.args.self.now c.args.id c.args.request.now) c.given-said.ensures)
    (sym (verdicts d c.if-not-leads_to.false room (pricing c.prices-prices.result) own c.in_ok-row.row c.prepare.new.draft.changes.items (c.in_ok-row.ensures.made.0, c.in_ok-row.ensures.made.1 ∙ ap (row_by (pricing c.prices-prices.result) c.args.self.now c.args.id c.args.request.now) c.given-said.ensures) true
    (sym c.if-draft.true ∙ c.in_ok-row.ensures.advised (advice_seen c.args.advice) own)))

pub returns-else-draft-clause-fault : goal.returns-else-draft-clause-fault
returns-else-draft-clause-fault c =
    let d = (goal.at.returns-else-draft-clause-fault c).After-leads_to in
    let room : length c.self.inside.rows < c.self.inside.settings.cap = omega (arith, c.len.ensures, c.cap.ensures.value, c.if-len-cap.false) in
    let own = c.prices-prices.ensures.pricing in
    lacks d c.if-not-leads_to.false room (pricing c.prices-prices.result) own c.in_ok-row.row c.prepare.new.draft.changes.items (c.in_ok-row.ensures.made.0, c.in_ok-row.ensures.made.1 ∙ ap (row_by (pricing c.prices-prices.result) c.args.self.now c.args.id c.args.request.now) c.given-said.ensures)
    (sym (verdicts d c.if-not-leads_to.false room (pricing c.prices-prices.result) own c.in_ok-row.row c.prepare.new.draft.changes.items (c.in_ok-row.ensures.made.0, c.in_ok-row.ensures.made.1 ∙ ap (row_by (pricing c.prices-prices.result) c.args.self.now c.args.id c.args.request.now) c.given-said.ensures) false
    (sym c.if-draft.false ∙ c.in_ok-row.ensures.advised (advice_seen c.args.advice) own)))
