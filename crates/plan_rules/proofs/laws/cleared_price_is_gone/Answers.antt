use Rattle.plan_rules.proofs.MapLaws.{price_of-without}
use Rattle.plan_rules.proofs.laws.cleared_price_is_gone.Goals as goal

pub returns : goal.returns
returns c = λ prices product other. price_of-without prices product other
