-- Nodes as they stand, as contracts see them.
use Rattle.std.specs.Prelude.{IsTrue}
use Rattle.world_setup.specs.declared.settings.WorldSettings.{WorldSettings}
use Rattle.world_core.specs.NodeLists.{NodeLists}
use Rattle.world_core.specs.declared.leading.KnownParts.{KnownParts}
use Rattle.node_log.specs.LogSeen.{logs_seen}
use Rattle.node_logged.specs.Standing.{AreStanding}
use Rattle.node_logged.specs.declared.judging.standing.Standing.{Standing}

-- the nodes of each kind
abbrev pub nodes_seen : KnownParts → NodeLists
nodes_seen n = record { pharmacies = n.pharmacies.items; switches = n.switches.items; payers = n.payers.items }

-- where the nodes are said to be whole, they are those of the logs
abbrev pub StandsWhole : WorldSettings → Standing → Type 0
StandsWhole s standing = IsTrue standing.is_whole → AreStanding s (nodes_seen standing.nodes) (logs_seen standing.logs.items)
