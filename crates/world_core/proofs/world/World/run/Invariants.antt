use Rattle.std.proofs.Common.{◌≡◌, map, take}
use Rattle.claim_model.specs.World.{run}
use Rattle.world_setup.specs.Seen.{event_seen}
use Rattle.world_core.specs.Parts.{context_of}
use Rattle.world_core.proofs.world.World.run.Given as goal

abbrev pub invariant-loop-place : goal.invariant-loop-place
invariant-loop-place l = record {
  routes : l.self.routes ≡ l.initial.self.routes;
  made : l.self.world ≡ run (context_of l.initial.self) l.initial.self.world (map event_seen (take l.place l.events));
}
