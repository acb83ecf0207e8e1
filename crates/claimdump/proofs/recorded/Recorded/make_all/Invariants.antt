use Rattle.std.proofs.Common.{drop, map}
use Rattle.world_setup.specs.Seen.{event_seen}
use Rattle.claimdump.proofs.Recording.{Left}
use Rattle.claimdump.proofs.recorded.Recorded.make_all.Given as goal

-- the events that are left lead to what all lead to
abbrev pub invariant-loop-event : goal.invariant-loop-event
invariant-loop-event l = Left l.fn.self l.self (map event_seen (drop l.event-index l.events)) (map event_seen l.events)
