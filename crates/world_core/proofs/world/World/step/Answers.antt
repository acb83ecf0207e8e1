use Rattle.claim_model.specs.Bytes.{bytes_with}
use Rattle.world_setup.specs.Seen.{event_seen}
use Rattle.world_core.proofs.Running.{reached_next}
use Rattle.world_core.proofs.world.World.step.Goals as goal

pub invariant_of-self-2 : goal.invariant_of-self-2
invariant_of-self-2 c = reached_next c.self.inside.routes c.self.inside.parts c.step.new.self (event_seen c.args.event.now) c.in_ok-step.ensures.ok c.self.invariant

pub step-requires : goal.step-requires
step-requires c = c.deliveries_meet_few_refusals.ensures.deliveries (bytes_with c.self.inside.routes) c.self.invariant.settings c.self.inside.parts c.self.invariant.reached
