use Rattle.std.proofs.Common.{◌≡◌, ◌<◌, length, map, Some, slice_get, arith}
use Rattle.std.proofs.lemmas.Result.{IfOk-weaker, IfErr-weaker}
use Rattle.world_setup.specs.Seen.{sent_seen, lent_seen}
use Rattle.claim_model.specs.Refusal.{refusal_of}
use Rattle.world_core.proofs.Calls.{node_at, called_done, called_refused}
use Rattle.days_audit.proofs.live.ask_node.Goals as goal

pub returns-in-Some-clause-ok : goal.returns-in-Some-clause-ok
returns-in-Some-clause-ok g c =
    let within : c.in-Some.place < length c.args.nodes.now.items = omega (arith, c.in-Some.ensures.place.1, c.len.ensures) in
    let there : slice_get c.args.nodes.now.items c.in-Some.place ≡ Some c.index_mut.result.now = node_at _ _ _ _ within c.index_mut.ensures.value in
    IfOk-weaker c.step.result _ _ (λ sent h. called_done (λ node. g.K.Kind.step c.args.routes.now node (lent_seen c.args.call)) c.args.nodes.now.items c.args.number c.in-Some.place c.index_mut.result.now c.step.new.self (map sent_seen sent.items) c.in-Some.ensures.place.0 there h) c.step.ensures.ok

pub returns-in-Some-clause-fault : goal.returns-in-Some-clause-fault
returns-in-Some-clause-fault g c =
    let within : c.in-Some.place < length c.args.nodes.now.items = omega (arith, c.in-Some.ensures.place.1, c.len.ensures) in
    let there : slice_get c.args.nodes.now.items c.in-Some.place ≡ Some c.index_mut.result.now = node_at _ _ _ _ within c.index_mut.ensures.value in
    IfErr-weaker c.step.result _ _ (λ fault h. called_refused (λ node. g.K.Kind.step c.args.routes.now node (lent_seen c.args.call)) c.args.nodes.now.items c.args.number c.in-Some.place c.index_mut.result.now (refusal_of fault) c.in-Some.ensures.place.0 there h) c.step.ensures.fault
