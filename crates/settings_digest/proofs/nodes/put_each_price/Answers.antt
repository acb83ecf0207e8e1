use Rattle.std.proofs.Common.{drop, arith}
use Rattle.std.proofs.lemmas.List.{drop_all}
use Rattle.settings_digest.specs.Said.{price_text}
use Rattle.settings_digest.specs.Fits.{FitsPrice}
use Rattle.settings_digest.proofs.Putting.{one_at, ends}
use Rattle.settings_digest.proofs.nodes.put_each_price.Goals as goal

pub loop-place-preserved : goal.loop-place-preserved
loop-place-preserved c =
    one_at price_text FitsPrice c.args.out.now.items c.loop-place.out.items c.put_price.new.out.items c.args.plan.now.prices c.loop-place.place (omega arith)
    c.in_ok-put_price.ensures.text c.in_ok-put_price.ensures.fits c.loop-place.invariant

pub returns-clause-text : goal.returns-clause-text
returns-clause-text c =
    let prices = c.args.plan.now.prices in
    let i = c.loop-place.place in
    (ends price_text FitsPrice c.args.out.now.items c.loop-place.out.items prices (drop i prices) (drop_all i prices (omega arith)) c.loop-place.invariant).0

pub returns-clause-fits : goal.returns-clause-fits
returns-clause-fits c =
    let prices = c.args.plan.now.prices in
    let i = c.loop-place.place in
    (ends price_text FitsPrice c.args.out.now.items c.loop-place.out.items prices (drop i prices) (drop_all i prices (omega arith)) c.loop-place.invariant).1
