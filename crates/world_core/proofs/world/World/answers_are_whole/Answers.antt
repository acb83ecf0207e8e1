use Rattle.claim_model.specs.Bytes.{bytes_with}
use Rattle.world_core.proofs.world.World.answers_are_whole.Goals as goal

pub returns : goal.returns
returns c = rw (← c.self.view_is) (c.answers_are_whole.ensures (bytes_with c.self.inside.routes) c.self.invariant.settings c.self.inside.parts c.self.invariant.reached)
