use Rattle.claim_model.specs.Bytes.{bytes_with}
use Rattle.world_core.proofs.world.World.counted_payments_stand.Goals as goal

pub returns-clause-counted : goal.returns-clause-counted
returns-clause-counted c = rw (← c.self.view_is) (c.counted_payments_stand.ensures (bytes_with c.self.inside.routes) c.self.invariant.settings c.self.inside.parts c.self.invariant.reached)

pub returns-clause-paid : goal.returns-clause-paid
returns-clause-paid c = rw (← c.self.view_is) (c.paid_is_kept.ensures (bytes_with c.self.inside.routes) c.self.invariant.settings c.self.inside.parts c.self.invariant.reached)
