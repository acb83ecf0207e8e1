use Rattle.std.proofs.Common.{map}
use Rattle.world_setup.specs.Seen.{event_seen, packet_seen}
use Rattle.node_log.specs.LogSeen.{logs_seen}
use Rattle.log_audit.specs.StandingSeen.{nodes_seen}
use Rattle.log_audit.proofs.Ends.{standing_world}
use Rattle.log_audit.proofs.judging.standing_run.Goals as goal

pub led_to-world-requires : goal.led_to-world-requires
led_to-world-requires c =
    rw (c.in_ok-opening_world.ensures, c.as_slice.ensures.value)
    (standing_world c.args.settings.now (logs_seen c.args.logs.now) (map event_seen c.args.run.events.items) (nodes_seen c.args.nodes) (map packet_seen c.args.run.packets.items) c.requires.run.merged c.requires.standing c.requires.run.packets)
