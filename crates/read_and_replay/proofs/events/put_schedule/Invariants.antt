use Rattle.std.proofs.Common.{◌≡◌, ◌+◌}
use Rattle.std.specs.Str.Lines.{lines}
use Rattle.input_text.specs.Lines.{numbered_lines}
use Rattle.world_core.specs.Parts.{context_of}
use Rattle.schedule.specs.Events.{event_of}
use Rattle.schedule.specs.Reading.{told_lines, spelled_in, events_of}
use Rattle.read_and_replay.proofs.RunLines.{run_on, IsBelowNext}
use Rattle.read_and_replay.proofs.events.put_schedule.Given as goal

-- the events so far, and then those of the lines that are left
abbrev pub invariant-loop-line : goal.invariant-loop-line
invariant-loop-line l = record {
  run : run_on (context_of l.fn.world) l.out.items l.world.world (l.made + 1) (spelled_in event_of (told_lines (numbered_lines l.line-iterator)))
      ≡ run_on (context_of l.fn.world) l.fn.out.items l.fn.world.world 1 (events_of (lines l.text));
  routes : l.world.routes ≡ l.fn.world.routes;
  below : IsBelowNext l.made (numbered_lines l.line-iterator);
}
