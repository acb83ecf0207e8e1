-- A product that was cleared has no price.
use Rattle.std.proofs.Common.{None, ap, ◌∙◌}
use Rattle.std.specs.Prelude.{if◌then◌else◌, option_map}
use Rattle.std.specs.Ordering.{is_eq}
use Rattle.plan_rules.specs.Prices.{price_of}
use Rattle.plan_rules.specs.Pricing.{amounts_at}
use Rattle.plan_rules.specs.Terms.{cleared}
use Rattle.claim_recovery.proofs.room.clearing_the_product_is_such_a_change.Goals as goal

pub returns-clause-pays_none : goal.returns-clause-pays_none
returns-clause-pays_none c = λ routes plan product request only place claim at.
    let equal = (c.same_bytes_are_one_product.ensures product claim.product).1 (only place claim at) in
    ap (option_map (amounts_at (cleared plan product) claim))
    (c.cleared_price_is_gone.ensures plan.prices product claim.product ∙ ap (λ o. if is_eq o then None else price_of plan.prices claim.product) equal)
