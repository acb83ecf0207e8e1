-- Product by product.
use Rattle.std.proofs.Common.{◌≡◌, ◌+◌, ◌<◌, suc, ◌&&◌, Bool, length, drop, sym, ap, ◌∙◌, arith}
use Rattle.log_growth.specs.Compared.{same_prices}
use Rattle.log_growth.proofs.Counts.{at_place}
use Rattle.log_growth.proofs.payers.same_prices.Goals as goal

pub returns-then-not-same_price : goal.returns-then-not-same_price
returns-then-not-same_price c =
    let h : c.loop-place.place < length c.args.old.now.prices = omega arith in
    let g : c.loop-place.place < length c.args.new.now.prices = omega arith in
    sym (ap (λ (t : Bool). t && same_prices (drop (suc c.loop-place.place) c.args.old.now.prices) (drop (suc c.loop-place.place) c.args.new.now.prices)) (c.if-not-same_price.true))
    ∙ (sym (at_place c.loop-place.place c.args.old.now.prices c.args.new.now.prices c.same_price.result h g c.same_price.ensures) ∙ c.loop-place.invariant)

pub loop-place-preserved : goal.loop-place-preserved
loop-place-preserved c =
    let h : c.loop-place.place < length c.args.old.now.prices = omega arith in
    let g : c.loop-place.place < length c.args.new.now.prices = omega arith in
    let next : c.loop-place.place + 1 ≡ suc c.loop-place.place = omega arith in
    rw next
    (sym (ap (λ (t : Bool). t && same_prices (drop (suc c.loop-place.place) c.args.old.now.prices) (drop (suc c.loop-place.place) c.args.new.now.prices)) (c.if-not-same_price.false))
    ∙ (sym (at_place c.loop-place.place c.args.old.now.prices c.args.new.now.prices c.same_price.result h g c.same_price.ensures) ∙ c.loop-place.invariant))
