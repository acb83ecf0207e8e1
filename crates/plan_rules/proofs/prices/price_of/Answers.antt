use Rattle.std.proofs.Common.{[], sym, ap, ◌∙◌}
use Rattle.plan_rules.proofs.Search.{found}
use Rattle.plan_rules.proofs.ByBytes.{price_of-found}
use Rattle.plan_rules.proofs.prices.price_of.Goals as goal

pub returns-in-Ok : goal.returns-in-Ok
returns-in-Ok c =
    let prices = c.args.prices.now in
    let read = c.index-prices-place.result in
    sym (price_of-found prices c.args.product.now c.requires read ∙ ap (found read prices) (sym c.in-Ok.ensures.place))

pub returns-in-Err : goal.returns-in-Err
returns-in-Err c =
    let prices = c.args.prices.now in
    sym (price_of-found prices c.args.product.now c.requires ([], 0) ∙ ap (found ([], 0) prices) (sym c.in-Err.ensures.place))
