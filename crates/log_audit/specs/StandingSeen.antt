-- Nodes as they stand, as contracts see them.
use Rattle.world_core.specs.NodeLists.{NodeLists}
use Rattle.world_core.specs.declared.leading.KnownParts.{KnownParts}

-- the nodes of each kind
abbrev pub nodes_seen : KnownParts → NodeLists
nodes_seen n = record { pharmacies = n.pharmacies.items; switches = n.switches.items; payers = n.payers.items }
