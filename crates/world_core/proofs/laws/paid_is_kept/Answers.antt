use Rattle.world_core.proofs.Keeping.{paid_kept}
use Rattle.world_core.proofs.laws.paid_is_kept.Goals as goal

pub returns : goal.returns
returns c = λ ctx settings w r. paid_kept ctx w (c.counted_payments_stand.ensures ctx settings w r)
