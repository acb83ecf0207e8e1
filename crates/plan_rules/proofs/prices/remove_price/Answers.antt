use Rattle.std.proofs.Common.{sym, ap, ◌∙◌}
use Rattle.plan_rules.proofs.Search.{without_found}
use Rattle.plan_rules.proofs.ByBytes.{without_product-found}
use Rattle.plan_rules.proofs.prices.remove_price.Goals as goal

pub returns-in-Ok : goal.returns-in-Ok
returns-in-Ok c =
    let prices = c.args.prices.now.items in
    let place = rw c.deref.ensures.value at c.in-Ok.ensures.place in
    rw c.remove.ensures.items (sym (without_product-found prices c.args.product.now c.requires ∙ ap (without_found prices) (sym place)))

pub returns-in_default : goal.returns-in_default
returns-in_default c =
    let prices = c.args.prices.now.items in
    let place = rw c.deref.ensures.value at c.in_default.ensures.place in
    sym (without_product-found prices c.args.product.now c.requires ∙ ap (without_found prices) (sym place))
