use Rattle.std.proofs.Common.{◌≡◌, ◌∙◌, subst}
use Rattle.std.proofs.lemmas.Bool.{OnFalse_at}
use Rattle.bin_routes.specs.Table.{RouteMaps}
use Rattle.claim_model.specs.Bytes.{bytes_with}
use Rattle.claim_model.specs.World.{step, world_after}
use Rattle.world_setup.specs.Seen.{event_seen}
use Rattle.world_core.specs.Parts.{context_of}
use Rattle.world_core.proofs.Running.{run_more}
use Rattle.world_core.proofs.world.World.run.Goals as goal

pub loop-place-preserved : goal.loop-place-preserved
loop-place-preserved c =
    let w = c.loop-place.self.world in
    let next = subst (λ (r : RouteMaps). c.lacks_memory.new.self.world ≡ world_after w (step (bytes_with r) w (event_seen c.index-events-place.result))) c.loop-place.invariant.routes (OnFalse_at c.if-lacks_memory.false c.lacks_memory.ensures.made) in
    record {
      routes = c.lacks_memory.ensures.routes ∙ c.loop-place.invariant.routes;
      made = next ∙ run_more (context_of c.args.self.now) c.args.self.now.world w c.args.events.now c.loop-place.place c.index-events-place.result c.loop-place-test.true c.index-events-place.is c.loop-place.invariant.made;
    }
