use Rattle.std.proofs.Common.{◌≡◌, ◌+◌, ◌<◌, ◌≤◌, ◌∷◌, drop, length, Some, inl, inr, refl, sym, ap, ◌∙◌, arith}
use Rattle.std.proofs.lemmas.List.{length-map}
use Rattle.std.proofs.lemmas.Result.{err_from_is_err_and}
use Rattle.d0_segments.specs.Pieces.{shared_of, groups_of}
use Rattle.d0_segments.specs.FramedParts.{framed_parts}
use Rattle.claim_model.specs.Bytes.{order_in, orders_in}
use Rattle.payer_book.specs.Drafts.{pricing}
use Rattle.payer_book.proofs.Places.{order_at, one_more, not_all_fit, nothing_yet, all_ruled, all_are_advised}
use Rattle.payer_book.proofs.ruling.drafting.rule_all.Goals as goal
use Rattle.payer_book.proofs.ruling.drafting.rule_all.Goals.{After-rule}

next : (c : After-rule) → drop c.loop-place.place (orders_in (Some (framed_parts c.args.framed.now))) ≡ order_in c.order_at.result ∷ drop (c.loop-place.place + 1) (orders_in (Some (framed_parts c.args.framed.now)))
next c =
    let f = c.args.framed.now in
    let groups = groups_of f.body.bytes.now in
    let lt : c.loop-place.place < length groups = omega (arith, c.group_count-places.ensures) in
    order_at f.header (shared_of f.body.bytes.now) groups c.loop-place.place lt
    ∙ ap (λ o. order_in o ∷ drop (c.loop-place.place + 1) (orders_in (Some (framed_parts f)))) (sym c.order_at.ensures)

pub loop-place-init : goal.loop-place-init
loop-place-init c = rw (c.clear.ensures.lists.0, c.clear.ensures.lists.1, c.clear.ensures.advised) (nothing_yet _ _ _)

pub loop-place-preserved : goal.loop-place-preserved
loop-place-preserved c =
    rw (c.in_ok-rule.ensures.rulings, c.in_ok-rule.ensures.changes, c.in_ok-rule.ensures.advised)
    (one_more c.args.payments.now (pricing c.args.prices) (orders_in (Some (framed_parts c.args.framed.now))) c.loop-place.place (order_in c.order_at.result)
    c.loop-place.draft.rulings.items c.loop-place.draft.changes.items c.loop-place.draft.advised c.loop-place.invariant (next (goal.at.loop-place-preserved c).After-rule) _ refl c.in_ok-rule.ensures.fits)

pub returns-in_err-rule-clause-fault : goal.returns-in_err-rule-clause-fault
returns-in_err-rule-clause-fault c =
    let p = err_from_is_err_and c.from_residual.result c.from_residual.ensures.1 in
    rw (p.1, p.2)
    (elim c.in_err-rule.ensures.fault [
      | inl e ↦ inl e
      | inr e ↦ inr (
        e.0,
        not_all_fit c.args.payments.now (pricing c.args.prices) (orders_in (Some (framed_parts c.args.framed.now))) c.loop-place.place (order_in c.order_at.result)
            c.loop-place.draft.rulings.items c.loop-place.draft.changes.items c.loop-place.draft.advised c.loop-place.invariant (next (goal.at.returns-in_err-rule-clause-fault c).After-rule) e.1,
      )
    ])

pub returns-clause-made : goal.returns-clause-made
returns-clause-made c =
    let f = c.args.framed.now in
    let orders = orders_in (Some (framed_parts f)) in
    let m = length-map (groups_of f.body.bytes.now) (λ group. order_in (Rattle.claim_profile.specs.Order.order_of f.header (shared_of f.body.bytes.now) group)) in
    let le : length orders ≤ c.loop-place.place = omega (arith, c.group_count-places.ensures, m) in
    record {
      ruled = all_ruled c.args.payments.now (pricing c.args.prices) orders c.loop-place.place c.loop-place.draft.rulings.items c.loop-place.draft.changes.items c.loop-place.draft.advised c.loop-place.invariant le;
      changed = c.loop-place.invariant.changed;
      fit = c.loop-place.invariant.fit;
      advised = all_are_advised c.args.payments.now (pricing c.args.prices) orders c.loop-place.place c.loop-place.draft.rulings.items c.loop-place.draft.changes.items c.loop-place.draft.advised c.loop-place.invariant le;
    }
