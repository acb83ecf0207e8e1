-- All nodes of a world.
use Rattle.std.specs.Prelude.{ℕ, List}
use Rattle.claim_model.specs.Rows.{Book}
use Rattle.claim_model.specs.Journal.{Journal, JournalAtRest}
use Rattle.claim_model.specs.Table.{Table}
use Rattle.claim_model.specs.Node.{Power}
use Rattle.claim_model.specs.World.{World, Packet}

-- the nodes of each kind, numbered from 1
pub record NodeLists : Type 0 where
  pub pharmacies : List (Power Journal JournalAtRest)
  pub switches : List (Power Table ℕ)
  pub payers : List (Power Book Book)

-- the world of these nodes and packets
abbrev pub world_of : NodeLists → List Packet → World
world_of nodes packets = record { pharmacies = nodes.pharmacies; switches = nodes.switches; payers = nodes.payers; packets = packets }
