-- What an event comes to, and what it leaves.
use Rattle.std.specs.Prelude.{Option, Some, None}
use Rattle.claim_model.specs.Node.{Outcome, Done, Refused}
use Rattle.claim_model.specs.World.{World, step}
use Rattle.world_setup.specs.declared.event.Event.{Event}
use Rattle.world_setup.specs.Seen.{event_seen}
use Rattle.world_core.specs.Parts.{WorldParts, context_of}

-- what an event comes to in a world as it stands
abbrev pub outcome_in : WorldParts → Event → Outcome World
outcome_in w event = step (context_of w) w.world (event_seen event)

-- the world after an event that was made
abbrev pub next_of : {A : Type 0} → Outcome A → Option A
next_of (Done next sent) = Some next
next_of (Refused why) = None
