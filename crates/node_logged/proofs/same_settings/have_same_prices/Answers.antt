use Rattle.std.proofs.Common.{◌∙◌, sym, refl}
use Rattle.node_logged.proofs.Sameness.{alike_more}
use Rattle.node_logged.proofs.same_settings.have_same_prices.Goals as goal

pub loop-place-preserved : goal.loop-place-preserved
loop-place-preserved c =
    alike_more c.args.a.now.prices c.args.b.now.prices c.loop-place.place (sym c.product.ensures ∙ (c.if-not-is_same_price.ensures refl ∙ c.product-in-loop-place.ensures)) c.loop-place.invariant
