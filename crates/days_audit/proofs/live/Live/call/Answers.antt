use Rattle.std.proofs.Common.{map}
use Rattle.std.proofs.lemmas.Result.{IfOk-weaker, IfErr-weaker}
use Rattle.claim_model.specs.Bytes.{bytes_with}
use Rattle.world_setup.specs.Seen.{sent_seen, lent_seen}
use Rattle.claim_model.specs.Refusal.{refusal_of}
use Rattle.world_core.proofs.Asking.{pharmacy_done, pharmacy_refused, payer_done, payer_refused}
use Rattle.vouched_runs.specs.Parties.{world_of}
use Rattle.days_audit.proofs.live.Live.call.Goals as goal

pub returns-in-Pharmacy-clause-ok : goal.returns-in-Pharmacy-clause-ok
returns-in-Pharmacy-clause-ok c =
    rw (c.in-Pharmacy.is, ← c.self.view_is, ← c.lent-call.ensures)
    (IfOk-weaker c.ask_node.result _ _ (λ sent h. pharmacy_done (bytes_with c.args.routes.now) (world_of (record { pharmacies = c.self.inside.pharmacies.items; payers = c.self.inside.payers.items })) c.in-Pharmacy.number (lent_seen c.lent-call.result) c.ask_node.new.nodes.items (map sent_seen sent.items) h) c.ask_node.ensures.ok)

pub returns-in-Pharmacy-clause-fault : goal.returns-in-Pharmacy-clause-fault
returns-in-Pharmacy-clause-fault c =
    rw (c.in-Pharmacy.is, ← c.self.view_is, ← c.lent-call.ensures)
    (IfErr-weaker c.ask_node.result _ _ (λ fault h. pharmacy_refused (bytes_with c.args.routes.now) (world_of (record { pharmacies = c.self.inside.pharmacies.items; payers = c.self.inside.payers.items })) c.in-Pharmacy.number (lent_seen c.lent-call.result) (refusal_of fault) h) c.ask_node.ensures.fault)

pub returns-in-Payer-clause-ok : goal.returns-in-Payer-clause-ok
returns-in-Payer-clause-ok c =
    rw (c.in-Payer.is, ← c.self.view_is, ← c.lent-call.ensures)
    (IfOk-weaker c.ask_node-in-Payer.result _ _ (λ sent h. payer_done (bytes_with c.args.routes.now) (world_of (record { pharmacies = c.self.inside.pharmacies.items; payers = c.self.inside.payers.items })) c.in-Payer.number (lent_seen c.lent-call.result) c.ask_node-in-Payer.new.nodes.items (map sent_seen sent.items) h) c.ask_node-in-Payer.ensures.ok)

pub returns-in-Payer-clause-fault : goal.returns-in-Payer-clause-fault
returns-in-Payer-clause-fault c =
    rw (c.in-Payer.is, ← c.self.view_is, ← c.lent-call.ensures)
    (IfErr-weaker c.ask_node-in-Payer.result _ _ (λ fault h. payer_refused (bytes_with c.args.routes.now) (world_of (record { pharmacies = c.self.inside.pharmacies.items; payers = c.self.inside.payers.items })) c.in-Payer.number (lent_seen c.lent-call.result) (refusal_of fault) h) c.ask_node-in-Payer.ensures.fault)
