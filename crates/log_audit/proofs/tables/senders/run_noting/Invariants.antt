use Rattle.std.proofs.Common.{◌≡◌, ◌+◌, ◌++◌, drop, map}
use Rattle.claim_model.specs.World.{run}
use Rattle.world_setup.specs.Seen.{event_seen}
use Rattle.world_core.specs.Parts.{context_of}
use Rattle.log_audit.specs.Senders.{senders_from}
use Rattle.log_audit.proofs.tables.senders.run_noting.Given as goal

-- the senders so far and those that the events left tell are all; the world so far leads to the same world, over the same routes
abbrev pub invariant-loop-place : goal.invariant-loop-place
invariant-loop-place l = record {
  senders : l.senders.items ++ senders_from (context_of l.fn.world) l.world.world (l.place + 1) (map event_seen (drop l.place l.events)) ≡ senders_from (context_of l.fn.world) l.fn.world.world 1 (map event_seen l.events);
  made : run (context_of l.fn.world) l.world.world (map event_seen (drop l.place l.events)) ≡ run (context_of l.fn.world) l.fn.world.world (map event_seen l.events);
  routes : l.world.routes ≡ l.fn.world.routes;
}
