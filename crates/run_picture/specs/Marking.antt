-- What marking a run adds, and what its events come to.
use Rattle.std.specs.Prelude.{◌≡◌, ℕ, List, ◌++◌, length, map}
use Rattle.std.specs.Global.{Vec}
use Rattle.world_setup.specs.declared.event.Event.{Event}
use Rattle.world_setup.specs.Seen.{event_seen}
use Rattle.world_core.specs.Parts.{WorldParts}
use Rattle.world_core.specs.Stepping.{outcome_in}
use Rattle.run_picture.specs.declared.mark.Mark as code
use Rattle.run_picture.specs.Marks.{Mark, event_marks}
use Rattle.run_picture.specs.Seen.{mark_seen}

-- these marks come after those that were there
abbrev pub AddsMarks : Vec code.Mark → Vec code.Mark → List Mark → Type 0
AddsMarks old new more = map mark_seen new.items ≡ map mark_seen old.items ++ more

-- the marks that an event has in a world as it stands
abbrev pub marks_in : WorldParts → ℕ → Event → List Mark
marks_in w number event = event_marks number (length w.world.packets) (event_seen event) (outcome_in w event)
