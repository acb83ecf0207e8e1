-- A world and the logs of its nodes, after some events.
use Rattle.std.specs.Prelude.{◌≡◌, ℕ, ◌-◌, List, drop, map, Option, Some, None}
use Rattle.claim_model.specs.Node.{Sent}
use Rattle.claim_model.specs.World.{Packet, Event, run}
use Rattle.claim_model.specs.Nodes.{Asked}
use Rattle.world_core.specs.Parts.{context_of}
use Rattle.claimdump.specs.Calls.{sent_as}
use Rattle.claimdump.specs.NodeLogs.{AllLogs, each, with_own, gone_on}
use Rattle.claimdump.specs.declared.recorded.Recorded.{Recorded}

-- the packets from a number on, as they were sent
abbrev pub sent_from : List Packet → ℕ → List Sent
sent_from packets first = map sent_as (drop (first - 1) packets)

-- logs, with a call that was asked for and accepted, and what was sent then
abbrev pub noted : Option Asked → List Sent → AllLogs → AllLogs
noted None sent logs = logs
noted (Some a) sent logs = each (with_own a.node (record { call = a.call; sent = sent })) logs

-- the world is as a run of these events leaves it, refused ones included, and each log has what its node did in that run
pub record IsAfter (events : List Event) (before after : Recorded) : Type 0 where
  pub world : after.world.world ≡ run (context_of before.world) before.world.world events
  pub routes : after.world.routes ≡ before.world.routes
  pub logs : after.logs ≡ each (gone_on (context_of before.world) before.world.world events) before.logs
