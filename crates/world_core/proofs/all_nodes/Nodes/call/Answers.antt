use Rattle.std.proofs.Common.{map, le_trans}
use Rattle.std.proofs.lemmas.Result.{IfOk-weaker, IfErr-weaker}
use Rattle.claim_model.specs.Bytes.{bytes_with}
use Rattle.world_setup.specs.Seen.{sent_seen, lent_seen}
use Rattle.claim_model.specs.Refusal.{refusal_of}
use Rattle.world_core.specs.NodeLists.{world_of}
use Rattle.world_core.proofs.Asking.{pharmacy_done, pharmacy_refused, switch_done, switch_refused, payer_done, payer_refused}
use Rattle.world_core.proofs.Rooms.{pharmacy_room, switch_room, payer_room}
use Rattle.world_core.proofs.all_nodes.Nodes.call.Goals as goal

pub ask_node-requires : goal.ask_node-requires
ask_node-requires c = rw (c.in-Pharmacy.is, ← c.self.view_is) at c.requires

pub ask_node-requires-in-Switch : goal.ask_node-requires-in-Switch
ask_node-requires-in-Switch c = rw (c.in-Switch.is, ← c.self.view_is) at c.requires

pub ask_node-requires-in-Payer : goal.ask_node-requires-in-Payer
ask_node-requires-in-Payer c = rw (c.in-Payer.is, ← c.self.view_is) at c.requires

pub returns-in-Pharmacy-clause-ok : goal.returns-in-Pharmacy-clause-ok
returns-in-Pharmacy-clause-ok c = λ packets.
    rw (c.in-Pharmacy.is, ← c.self.view_is)
    (IfOk-weaker c.ask_node.result _ _ (λ sent h. pharmacy_done (bytes_with c.args.routes.now) (world_of (record { pharmacies = c.self.inside.pharmacies.items; switches = c.self.inside.switches.items; payers = c.self.inside.payers.items }) packets) c.in-Pharmacy.number (lent_seen c.args.call) c.ask_node.new.nodes.items (map sent_seen sent.items) h) c.ask_node.ensures.ok)

pub returns-in-Pharmacy-clause-fault : goal.returns-in-Pharmacy-clause-fault
returns-in-Pharmacy-clause-fault c = λ packets.
    rw (c.in-Pharmacy.is, ← c.self.view_is)
    (IfErr-weaker c.ask_node.result _ _ (λ fault h. pharmacy_refused (bytes_with c.args.routes.now) (world_of (record { pharmacies = c.self.inside.pharmacies.items; switches = c.self.inside.switches.items; payers = c.self.inside.payers.items }) packets) c.in-Pharmacy.number (lent_seen c.args.call) (refusal_of fault) h) c.ask_node.ensures.fault)

pub returns-in-Switch-clause-ok : goal.returns-in-Switch-clause-ok
returns-in-Switch-clause-ok c = λ packets.
    rw (c.in-Switch.is, ← c.self.view_is)
    (IfOk-weaker c.ask_node-in-Switch.result _ _ (λ sent h. switch_done (bytes_with c.args.routes.now) (world_of (record { pharmacies = c.self.inside.pharmacies.items; switches = c.self.inside.switches.items; payers = c.self.inside.payers.items }) packets) c.in-Switch.number (lent_seen c.args.call) c.ask_node-in-Switch.new.nodes.items (map sent_seen sent.items) h) (c.ask_node-in-Switch.ensures.ok))

pub returns-in-Switch-clause-fault : goal.returns-in-Switch-clause-fault
returns-in-Switch-clause-fault c = λ packets.
    rw (c.in-Switch.is, ← c.self.view_is)
    (IfErr-weaker c.ask_node-in-Switch.result _ _ (λ fault h. switch_refused (bytes_with c.args.routes.now) (world_of (record { pharmacies = c.self.inside.pharmacies.items; switches = c.self.inside.switches.items; payers = c.self.inside.payers.items }) packets) c.in-Switch.number (lent_seen c.args.call) (refusal_of fault) h) (c.ask_node-in-Switch.ensures.fault))

pub returns-in-Payer-clause-ok : goal.returns-in-Payer-clause-ok
returns-in-Payer-clause-ok c = λ packets.
    rw (c.in-Payer.is, ← c.self.view_is)
    (IfOk-weaker c.ask_node-in-Payer.result _ _ (λ sent h. payer_done (bytes_with c.args.routes.now) (world_of (record { pharmacies = c.self.inside.pharmacies.items; switches = c.self.inside.switches.items; payers = c.self.inside.payers.items }) packets) c.in-Payer.number (lent_seen c.args.call) c.ask_node-in-Payer.new.nodes.items (map sent_seen sent.items) h) (c.ask_node-in-Payer.ensures.ok))

pub returns-in-Payer-clause-fault : goal.returns-in-Payer-clause-fault
returns-in-Payer-clause-fault c = λ packets.
    rw (c.in-Payer.is, ← c.self.view_is)
    (IfErr-weaker c.ask_node-in-Payer.result _ _ (λ fault h. payer_refused (bytes_with c.args.routes.now) (world_of (record { pharmacies = c.self.inside.pharmacies.items; switches = c.self.inside.switches.items; payers = c.self.inside.payers.items }) packets) c.in-Payer.number (lent_seen c.args.call) (refusal_of fault) h) (c.ask_node-in-Payer.ensures.fault))

pub returns-in-Pharmacy-clause-few : goal.returns-in-Pharmacy-clause-few
returns-in-Pharmacy-clause-few c =
    rw (c.in-Pharmacy.is, ← c.self.view_is)
    (IfOk-weaker c.ask_node.result _ _ (λ sent h. le_trans h (pharmacy_room (record { pharmacies = c.self.inside.pharmacies.items; switches = c.self.inside.switches.items; payers = c.self.inside.payers.items }) c.in-Pharmacy.number (lent_seen c.args.call))) c.ask_node.ensures.few)

pub returns-in-Switch-clause-few : goal.returns-in-Switch-clause-few
returns-in-Switch-clause-few c =
    rw (c.in-Switch.is, ← c.self.view_is)
    (IfOk-weaker c.ask_node-in-Switch.result _ _ (λ sent h. le_trans h (switch_room (record { pharmacies = c.self.inside.pharmacies.items; switches = c.self.inside.switches.items; payers = c.self.inside.payers.items }) c.in-Switch.number (lent_seen c.args.call))) c.ask_node-in-Switch.ensures.few)

pub returns-in-Payer-clause-few : goal.returns-in-Payer-clause-few
returns-in-Payer-clause-few c =
    rw (c.in-Payer.is, ← c.self.view_is)
    (IfOk-weaker c.ask_node-in-Payer.result _ _ (λ sent h. le_trans h (payer_room (record { pharmacies = c.self.inside.pharmacies.items; switches = c.self.inside.switches.items; payers = c.self.inside.payers.items }) c.in-Payer.number (lent_seen c.args.call))) c.ask_node-in-Payer.ensures.few)
