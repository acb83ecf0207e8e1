-- A world whose parts are known.
use Rattle.std.specs.Prelude.{map}
use Rattle.claim_model.specs.World.{World}
use Rattle.world_setup.specs.Seen.{packet_seen}
use Rattle.world_core.specs.declared.leading.KnownParts.{KnownParts}

-- the world of these nodes and packets
abbrev pub known_world : KnownParts → World
known_world k = record { pharmacies = k.pharmacies.items; switches = k.switches.items; payers = k.payers.items; packets = map packet_seen k.packets.items }
