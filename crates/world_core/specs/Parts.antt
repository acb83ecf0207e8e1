-- What a world is seen as, and what every world keeps.
use Rattle.bin_routes.specs.Table.{RouteMaps}
use Rattle.claim_model.specs.Context.{Context}
use Rattle.claim_model.specs.Settings.{WorldSettings}
use Rattle.claim_model.specs.World.{World}
use Rattle.claim_model.specs.Promises.{Reached}
use Rattle.claim_model.specs.Bytes.{bytes_with}
use Rattle.claim_recovery.specs.Help.{Timely}

-- the table of routes that all nodes share, and the model's world: every node, and every packet that was sent
pub record WorldParts : Type 0 where
  pub routes : RouteMaps
  pub world : World

-- the reading of bytes in a world
abbrev pub context_of : WorldParts → Context
context_of parts = bytes_with parts.routes

-- some events lead to the world from the opening of settings that a world takes
pub record IsReached (routes : RouteMaps) (w : World) : Type 0 where
  pub settings : WorldSettings
  pub reached : Reached (bytes_with routes) settings w
  -- every pharmacy's settings have a wait and a number of tries above zero
  pub timely : Timely settings
