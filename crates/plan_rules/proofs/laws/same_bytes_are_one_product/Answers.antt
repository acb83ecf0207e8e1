use Rattle.plan_rules.proofs.MapLaws.{tied_product, product_tied}
use Rattle.plan_rules.proofs.laws.same_bytes_are_one_product.Goals as goal

pub returns : goal.returns
returns c = λ product other. (tied_product product other, product_tied product other)
