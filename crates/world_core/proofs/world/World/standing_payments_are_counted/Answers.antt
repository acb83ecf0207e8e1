use Rattle.claim_model.specs.Bytes.{bytes_with}
use Rattle.world_core.proofs.world.World.standing_payments_are_counted.Goals as goal

pub returns : goal.returns
returns c = rw (← c.self.view_is) (c.standing_payments_are_counted.ensures (bytes_with c.self.inside.routes) c.self.invariant.settings c.self.inside.parts c.self.invariant.reached)
