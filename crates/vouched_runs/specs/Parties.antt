-- Pharmacies and payers alone: what all that is told of payments hangs on.
use Rattle.std.specs.Prelude.{List, []}
use Rattle.claim_model.specs.Rows.{Book}
use Rattle.claim_model.specs.Journal.{Journal, JournalAtRest}
use Rattle.claim_model.specs.Node.{Power}
use Rattle.claim_model.specs.World.{World}

pub record Parties : Type 0 where
  pub pharmacies : List (Power Journal JournalAtRest)
  pub payers : List (Power Book Book)

-- the world of these nodes, with no switch and no packet
abbrev pub world_of : Parties → World
world_of p = record { pharmacies = p.pharmacies; switches = []; payers = p.payers; packets = [] }

-- the pharmacies and the payers of a world
abbrev pub parties_in : World → Parties
parties_in w = record { pharmacies = w.pharmacies; payers = w.payers }
