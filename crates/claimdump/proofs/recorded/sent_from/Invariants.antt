use Rattle.std.proofs.Common.{◌≡◌, ◌++◌, drop, map}
use Rattle.world_setup.specs.Seen.{packet_seen, sent_seen}
use Rattle.claimdump.specs.Calls.{sent_as}
use Rattle.claimdump.proofs.recorded.sent_from.Given as goal

-- the packets so far, and then those that are left
abbrev pub invariant-loop-packet : goal.invariant-loop-packet
invariant-loop-packet l = map sent_seen l.all.items ++ map sent_as (map packet_seen (drop l.packet-index l.packet-items)) ≡ map sent_as (map packet_seen l.packet-items)
