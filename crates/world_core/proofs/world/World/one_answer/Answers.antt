use Rattle.claim_model.specs.Bytes.{bytes_with}
use Rattle.world_core.proofs.world.World.one_answer.Goals as goal

pub returns : goal.returns
returns c = rw (← c.self.view_is) (λ events. c.one_answer.ensures (bytes_with c.self.inside.routes) c.self.invariant.settings c.self.inside.parts events c.self.invariant.reached)
