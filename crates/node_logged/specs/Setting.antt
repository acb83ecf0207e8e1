-- What nodes on threads are opened with, and how they read bytes.
use Rattle.std.specs.Prelude.{List, Option}
use Rattle.claim_model.specs.Context.{Context}
use Rattle.claim_model.specs.Bytes.{bytes_with}
use Rattle.claim_model.specs.Settings.{opening}
use Rattle.claim_model.specs.Node.{Node}
use Rattle.claim_model.specs.World.{Event, run}
use Rattle.world_setup.specs.Seen.{settings_seen}
use Rattle.world_setup.specs.declared.settings.WorldSettings.{WorldSettings}
use Rattle.claim_model.specs.Nodes.{AnyNode, node_at}
use Rattle.world_core.specs.Parts.{WorldParts}
use Rattle.world_setup.specs.Taken.{routes_in}

-- how nodes of these settings read bytes: by the table of their routes
abbrev pub context_of : WorldSettings → Context
context_of s = bytes_with (routes_in s)

-- the node of that name as it opens, up and empty, where it is there
abbrev pub opened : WorldSettings → Node → Option AnyNode
opened s node = node_at (opening (settings_seen s)) node

-- the world that the settings open
abbrev pub opening_world : WorldSettings → WorldParts
opening_world s = record { routes = routes_in s; world = opening (settings_seen s) }

-- the world after a run of these events
abbrev pub world_after_run : WorldSettings → List Event → WorldParts
world_after_run s events = record { routes = routes_in s; world = run (context_of s) (opening (settings_seen s)) events }
