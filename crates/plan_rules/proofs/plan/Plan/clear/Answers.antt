use Rattle.plan_rules.proofs.Keeping.{keeps_clearing}
use Rattle.plan_rules.proofs.plan.Plan.clear.Goals as goal

pub invariant_of-self : goal.invariant_of-self
invariant_of-self c = rw c.remove_price.ensures (keeps_clearing _ c.args.product.now c.self.invariant)
