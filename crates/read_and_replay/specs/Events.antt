-- The lines of events, each made in the world as the earlier ones left it, and the whole report.
use Rattle.std.specs.Prelude.{ℕ, ◌+◌, List, [], ◌∷◌, ◌++◌, length}
use Rattle.claim_model.specs.Context.{Context}
use Rattle.claim_model.specs.World.{World, Event, step, world_after, run}
use Rattle.world_setup.specs.declared.event.Event.{Event as EventGiven}
use Rattle.world_core.specs.Parts.{WorldParts}
use Rattle.world_core.specs.Stepping.{outcome_in}
use Rattle.world_report.specs.Words.{Line}
use Rattle.world_report.specs.Events.{event_line}
use Rattle.world_report.specs.Nodes.{world_lines}

-- the line that an event has in a world as it stands
abbrev pub line_in : WorldParts → ℕ → EventGiven → Line
line_in w number event = event_line number (length w.world.packets) (outcome_in w event)

-- a line for each event, made or refused
abbrev pub event_lines : Context → World → ℕ → List Event → List Line
event_lines ctx w number [] = []
event_lines ctx w number (event ∷ events) =
    event_line number (length w.packets) (step ctx w event) ∷ event_lines ctx (world_after w (step ctx w event)) (number + 1) events

-- the report on a world that some events are run in: a line for each event, and then each node as it is after all of them
unfoldable pub run_lines : Context → World → List Event → List Line
run_lines ctx w events = event_lines ctx w 1 events ++ world_lines ctx (run ctx w events)
