use Rattle.std.proofs.Common.{arith}
use Rattle.plan_rules.proofs.Keeping.{is_product-passed, keeps_setting}
use Rattle.plan_rules.proofs.plan.Plan.set.Goals as goal

pub invariant_of-self : goal.invariant_of-self
invariant_of-self c =
    let good = is_product-passed c.args.product.now c.in-Some.text c.in-Some.ensures in
    keeps_setting _ c.in-Some.text c.args.price c.set_price.result c.set_price.new.prices.items c.self.invariant good (omega arith) c.set_price.ensures.ok c.set_price.ensures.err
