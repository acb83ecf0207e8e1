use Rattle.std.proofs.Common.{◌≡◌, ◌+◌, ◌++◌, drop, map}
use Rattle.claim_model.specs.World.{run}
use Rattle.world_setup.specs.Seen.{event_seen}
use Rattle.world_core.specs.Parts.{context_of}
use Rattle.run_picture.specs.Marks.{marks_from}
use Rattle.run_picture.specs.Seen.{mark_seen}
use Rattle.run_picture.proofs.marking.mark_run.Given as goal

-- the marks so far, and then those of the events that are left
abbrev pub invariant-loop-place : goal.invariant-loop-place
invariant-loop-place l = record {
  marks : map mark_seen l.marks.items ++ marks_from (context_of l.fn.world) l.world.world (l.place + 1) (map event_seen (drop l.place l.events))
      ≡ marks_from (context_of l.fn.world) l.fn.world.world 1 (map event_seen l.events);
  made : run (context_of l.fn.world) l.world.world (map event_seen (drop l.place l.events)) ≡ run (context_of l.fn.world) l.fn.world.world (map event_seen l.events);
  routes : l.world.routes ≡ l.fn.world.routes;
}
