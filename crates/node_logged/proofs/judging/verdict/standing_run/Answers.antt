use Rattle.std.proofs.Common.{map}
use Rattle.world_setup.specs.Seen.{event_seen, packet_seen}
use Rattle.node_log.specs.LogSeen.{logs_seen}
use Rattle.node_logged.specs.StandingSeen.{nodes_seen}
use Rattle.node_logged.proofs.Stands.{stands_world}
use Rattle.node_logged.proofs.judging.verdict.standing_run.Goals as goal

pub led_to-world-requires : goal.led_to-world-requires
led_to-world-requires c =
    rw (c.in_ok-opening_world.ensures, c.deref.ensures.value)
    (stands_world c.args.settings.now (logs_seen c.args.logs.items) (map event_seen c.args.run.events.items) (nodes_seen c.args.nodes) (map packet_seen c.args.run.packets.items) c.requires.run.merged c.requires.standing c.requires.all c.requires.run.packets)
