use Rattle.world_core.proofs.Standing.{paid_once}
use Rattle.world_core.proofs.laws.fill_is_paid_once.Goals as goal

pub returns : goal.returns
returns c = λ ctx settings w r. paid_once ctx w (c.one_standing_payment.ensures ctx settings w r)
