-- What a search for an order keeps, as the model sees it.
use Rattle.std.specs.Prelude.{List, map}
use Rattle.claim_model.specs.World.{Packet}
use Rattle.world_setup.specs.Seen.{node_seen}
use Rattle.claim_model.specs.Logs.{NodeLog}
use Rattle.run_merge.specs.declared.slip.Slip.{Slip}
use Rattle.run_merge.specs.declared.line.Line.{Line}

-- a packet
abbrev pub slip_seen : Slip → Packet
slip_seen s = record { from = node_seen s.from; to = node_seen s.to; bytes = s.bytes.now }

-- what is left of a log
abbrev pub line_seen : Line → NodeLog
line_seen line = record { node = node_seen line.node; calls = line.left.now }

abbrev pub lines_seen : List Line → List NodeLog
lines_seen lines = map line_seen lines
