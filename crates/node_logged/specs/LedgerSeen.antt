-- Tills, many at once, as contracts see them.
use Rattle.std.specs.Prelude.{List, map}
use Rattle.node_logged.specs.Tills as tills
use Rattle.node_logged.specs.TillSeen.{till_seen}
use Rattle.node_logged.specs.declared.till.Till.{Till}

abbrev pub tills_seen : List Till → List tills.Till
tills_seen ts = map till_seen ts
