use Rattle.std.proofs.Common.{rules}
use Rattle.std.proofs.lemmas.Fn.{always_returns_same}
use Rattle.plan_rules.specs.Prices.{by_bytes}
use Rattle.plan_rules.proofs.ByBytes.{search-place}
use Rattle.plan_rules.proofs.prices.place_of.Goals as goal

pub returns-clause-place : goal.returns-clause-place
returns-clause-place c =
    let facts = c.binary_search_by.ensures in
    let by_product = facts.position (λ e. by_bytes e.0 c.args.product.now) (always_returns_same _ _ _ (λ a r g called. search rules)) in
    search-place c.args.prices.now c.args.product.now c.requires c.binary_search_by.result facts.bound by_product
