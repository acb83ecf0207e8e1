use Rattle.claim_model.specs.Bytes.{bytes_with}
use Rattle.world_core.proofs.world.World.deliveries_meet_few_refusals.Goals as goal

pub returns-clause-deliveries : goal.returns-clause-deliveries
returns-clause-deliveries c = rw (← c.self.view_is) (c.deliveries_meet_few_refusals.ensures.deliveries (bytes_with c.self.inside.routes) c.self.invariant.settings c.self.inside.parts c.self.invariant.reached)

pub returns-clause-adjudications : goal.returns-clause-adjudications
returns-clause-adjudications c = rw (← c.self.view_is) (c.deliveries_meet_few_refusals.ensures.adjudications (bytes_with c.self.inside.routes) c.self.invariant.settings c.self.inside.parts c.self.invariant.reached)
