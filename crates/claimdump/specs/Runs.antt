-- A run from settings, with the logs of its nodes.
use Rattle.std.specs.Prelude.{◌≡◌, List}
use Rattle.claim_model.specs.Bytes.{bytes_with}
use Rattle.claim_model.specs.Context.{Context}
use Rattle.claim_model.specs.Settings.{opening}
use Rattle.claim_model.specs.World.{World, Event, run}
use Rattle.world_setup.specs.Seen.{settings_seen}
use Rattle.world_setup.specs.declared.settings.WorldSettings.{WorldSettings}
use Rattle.claimdump.specs.NodeLogs.{AllLogs, each, gone_on, no_calls}
use Rattle.claimdump.specs.declared.recorded.Recorded.{Recorded}
use Rattle.world_setup.specs.Taken.{routes_in}

-- the reading of bytes under settings
abbrev pub context_under : WorldSettings → Context
context_under s = bytes_with (routes_in s)

-- the world that they open
abbrev pub opened_by : WorldSettings → World
opened_by s = opening (settings_seen s)

-- the logs of all nodes in a run of these events, refused ones included
abbrev pub run_logs : WorldSettings → List Event → AllLogs
run_logs s events = each (gone_on (context_under s) (opened_by s) events) (no_calls s)

-- what is there after that run
pub record IsRun (s : WorldSettings) (events : List Event) (after : Recorded) : Type 0 where
  pub routes : after.world.routes ≡ routes_in s
  pub world : after.world.world ≡ run (context_under s) (opened_by s) events
  pub logs : after.logs ≡ run_logs s events
