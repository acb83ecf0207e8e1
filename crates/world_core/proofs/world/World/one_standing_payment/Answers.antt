use Rattle.claim_model.specs.Bytes.{bytes_with}
use Rattle.world_core.proofs.world.World.one_standing_payment.Goals as goal

pub returns-clause-standing : goal.returns-clause-standing
returns-clause-standing c = rw (← c.self.view_is) (c.one_standing_payment.ensures (bytes_with c.self.inside.routes) c.self.invariant.settings c.self.inside.parts c.self.invariant.reached)

pub returns-clause-payment : goal.returns-clause-payment
returns-clause-payment c = rw (← c.self.view_is) (c.fill_is_paid_once.ensures (bytes_with c.self.inside.routes) c.self.invariant.settings c.self.inside.parts c.self.invariant.reached)
