-- What a log begins with, as the definitions see it.
use Rattle.world_setup.specs.Seen.{node_seen}
use Rattle.kept_logs.specs.Rests as rest
use Rattle.kept_logs.specs.declared.rests.Rest.{Rest}

abbrev pub rest_seen : Rest → rest.Rest
rest_seen r = record { node = node_seen r.node; calls = r.calls; closed = r.closed.now; references = r.references.items; kept = r.kept.now }
