use Rattle.std.proofs.Common.{length}
use Rattle.world_setup.specs.Seen.{settings_seen}
use Rattle.node_state.proofs.Openings.{all_have_nodes, have_node}
use Rattle.node_state.proofs.state.NodeState.resumed.Goals as goal

pub pharmacy_resumed-requires : goal.pharmacy_resumed-requires
pharmacy_resumed-requires c =
    rw (c.as_slice.ensures.value, c.settings-settings.ensures.kept) (have_node (length c.args.settings.now.switches.items) c.args.settings.now.pharmacies.items (all_have_nodes (settings_seen c.args.settings.now) c.settings-settings.ensures.nodes))
