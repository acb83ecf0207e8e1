-- The report that an input has.
use Rattle.std.specs.Prelude.{◌≡◌, ℕ, List, [], ◌++◌, map, Some, Result, Ok, Err}
use Rattle.std.specs.Str.Lines.{lines}
use Rattle.claim_model.specs.World.{run}
use Rattle.world_setup.specs.Seen.{event_seen}
use Rattle.world_setup.specs.declared.event.Event.{Event}
use Rattle.world_core.specs.Parts.{WorldParts, context_of}
use Rattle.schedule.specs.Division.{settings_text, schedule_lines}
use Rattle.schedule.specs.Reading.{events_of}
use Rattle.world_report.specs.Words.{lines_text}
use Rattle.program_io.specs.declared.fault.InputFault.{InputFault}
use Rattle.program_io.specs.Scheduled.{world_in, scheduled_of}
use Rattle.read_and_replay.specs.Events.{event_lines, run_lines}

-- the report of these events from this world
abbrev pub report_from : WorldParts → List Event → List ℕ
report_from w events = lines_text (run_lines (context_of w) w.world (map event_seen events))

-- the report of what an input begins with
abbrev pub report_of : Result (WorldParts × List Event) InputFault → Result (List ℕ) InputFault
report_of (Ok (w, events)) = Ok (report_from w events)
report_of (Err why) = Err why

-- the report of an input, or what is bad in it
unfoldable pub replay_of : List ℕ → Result (List ℕ) InputFault
replay_of input = report_of (scheduled_of input)

-- after what was written stand the lines of these events from the world as it was, and the world is as it is after all of them
pub record IsAfter (events : List Event) (written : List ℕ) (before : WorldParts) (now : List ℕ) (after : WorldParts) : Type 0 where
  pub lines : now ≡ written ++ lines_text (event_lines (context_of before) before.world 1 (map event_seen events))
  pub world : after.world ≡ run (context_of before) before.world (map event_seen events)
  pub routes : after.routes ≡ before.routes

-- the same of the events that lines spell
abbrev pub IsRun : Result (List Event) ℕ → List ℕ → WorldParts → List ℕ → WorldParts → Type 0
IsRun (Ok events) written before now after = IsAfter events written before now after
IsRun (Err number) written before now after = ⊥

-- the lines of the events of an input, and the world after them
pub record IsRunOf (input : List ℕ) (told : List ℕ) (after : WorldParts) : Type 0 where
  pub before : WorldParts
  pub opens : world_in (settings_text input) ≡ Some before
  pub run : IsRun (events_of (schedule_lines (lines input))) [] before told after
