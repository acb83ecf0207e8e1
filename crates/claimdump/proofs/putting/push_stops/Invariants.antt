use Rattle.std.proofs.Common.{◌≡◌, ◌++◌, drop, map}
use Rattle.node_log.specs.LogSeen.{logs_seen}
use Rattle.world_setup.specs.Seen.{event_seen}
use Rattle.claimdump.specs.Files.{stop_of}
use Rattle.claimdump.proofs.putting.push_stops.Given as goal

-- the stops so far, and then those that are left
abbrev pub invariant-loop-log : goal.invariant-loop-log
invariant-loop-log l = map event_seen l.stops.items ++ map stop_of (logs_seen (drop l.log-index l.logs)) ≡ map event_seen l.initial.stops.items ++ map stop_of (logs_seen l.logs)
