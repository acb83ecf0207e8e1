use Rattle.std.proofs.Common.{length, map, arith}
use Rattle.claim_model.specs.Settings.{pharmacies_from, switches_of, payers_from}
use Rattle.world_setup.specs.Seen.{settings_seen, payer_seen}
use Rattle.node_state.specs.Nodes.{OfPharmacy, OfSwitch, OfPayer}
use Rattle.claim_model.proofs.Posts.{length_switches}
use Rattle.node_state.proofs.Openings.{there_within, mapped_there, length-pharmacies_from, length-payers_from, all_have_nodes, have_node}
use Rattle.node_state.proofs.state.NodeState.opening.Goals as goal

pub pharmacy_of-requires-clause-nodes : goal.pharmacy_of-requires-clause-nodes
pharmacy_of-requires-clause-nodes c =
    rw (c.as_slice.ensures.value, c.settings-settings.ensures.kept) (have_node (length c.args.settings.now.switches.items) c.args.settings.now.pharmacies.items (all_have_nodes (settings_seen c.args.settings.now) c.settings-settings.ensures.nodes))

pub pharmacy_of-requires-clause-there : goal.pharmacy_of-requires-clause-there
pharmacy_of-requires-clause-there c =
    let within = there_within (pharmacies_from 1 c.args.settings.now.pharmacies.items) c.in-Pharmacy.number (mapped_there OfPharmacy _ (rw c.in-Pharmacy.is at c.requires)) in
    rw (c.as_slice.ensures.value, c.settings-settings.ensures.kept) (omega (arith, within.1, length-pharmacies_from 1 c.args.settings.now.pharmacies.items))

pub switch_of-switch-requires-clause-there : goal.switch_of-switch-requires-clause-there
switch_of-switch-requires-clause-there c =
    let within = there_within (switches_of c.args.settings.now.switches.items) c.in-Switch.number (mapped_there OfSwitch _ (rw c.in-Switch.is at c.requires)) in
    rw (c.as_slice-in-Switch.ensures.value, c.settings-settings.ensures.kept) (omega (arith, within.1, length_switches c.args.settings.now.switches.items))

pub payer_of-requires-clause-there : goal.payer_of-requires-clause-there
payer_of-requires-clause-there c =
    let within = there_within (payers_from 1 (map payer_seen c.args.settings.now.payers.items)) c.in-Payer.number (mapped_there OfPayer _ (rw c.in-Payer.is at c.requires)) in
    rw (c.as_slice-in-Payer.ensures.value, c.settings-settings.ensures.kept) (omega (arith, within.1, length-payers_from 1 c.args.settings.now.payers.items))
