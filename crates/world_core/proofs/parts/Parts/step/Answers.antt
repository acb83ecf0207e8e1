use Rattle.std.proofs.Common.{◌≡◌, List, map, Some, None, sym, ap, ◌∙◌}
use Rattle.std.proofs.lemmas.Result.{err_from_is_err_and}
use Rattle.claim_model.specs.Bytes.{bytes_with}
use Rattle.claim_model.specs.Nodes.{asked}
use Rattle.claim_model.specs.World as model
use Rattle.claim_model.specs.World.{posted}
use Rattle.world_setup.specs.declared.call.Packet.{Packet}
use Rattle.world_setup.specs.Seen.{node_seen, lent_seen, sent_seen, packet_seen, event_seen}
use Rattle.world_core.specs.Asked.{asked_of}
use Rattle.world_core.specs.NodeLists.{world_of}
use Rattle.world_core.specs.Stepping.{next_of}
use Rattle.world_core.proofs.Stepping.{asks, asks_nobody, asks_readable}
use Rattle.world_core.proofs.parts.Parts.step.Goals as goal

pub call-requires : goal.call-requires
call-requires c =
    let event = event_seen c.args.event.now in
    let packets = map packet_seen c.self.inside.packets.items in
    let seen : c.as_slice.result.now ≡ c.self.inside.packets.items = c.as_slice.ensures.value ∙ c.in_ok-reserve.ensures.items in
    let some : Some (asked_of (c.in-Some.node, c.in-Some.call)) ≡ asked packets event = c.in-Some.ensures ∙ ap (λ (ps : List Packet). asked (map packet_seen ps) event) seen in
    asks_readable c.args.routes.now c.self.inside.nodes packets event (node_seen c.in-Some.node) (lent_seen c.in-Some.call) (rw (← c.self.view_is) at c.requires) some

pub returns-in_default-clause-fault : goal.returns-in_default-clause-fault
returns-in_default-clause-fault c =
    let event = event_seen c.args.event.now in
    let seen : c.as_slice.result.now ≡ c.self.inside.packets.items = c.as_slice.ensures.value ∙ c.in_ok-reserve.ensures.items in
    let nobody : None ≡ asked (map packet_seen c.self.inside.packets.items) event = c.in_default.ensures ∙ ap (λ (ps : List Packet). asked (map packet_seen ps) event) seen in
    rw (← c.self.view_is) (asks_nobody (bytes_with c.args.routes.now) (world_of c.self.inside.nodes (map packet_seen c.self.inside.packets.items)) event nobody)

pub returns-in_err-sent-clause-fault : goal.returns-in_err-sent-clause-fault
returns-in_err-sent-clause-fault c =
    let e = err_from_is_err_and c.from_residual-in_err-sent.result c.from_residual-in_err-sent.ensures.1 in
    let event = event_seen c.args.event.now in
    let packets = map packet_seen c.self.inside.packets.items in
    let a = asked_of (c.in-Some.node, c.in-Some.call) in
    let seen : c.as_slice.result.now ≡ c.self.inside.packets.items = c.as_slice.ensures.value ∙ c.in_ok-reserve.ensures.items in
    let some : Some a ≡ asked packets event = c.in-Some.ensures ∙ ap (λ (ps : List Packet). asked (map packet_seen ps) event) seen in
    let is = asks (bytes_with c.args.routes.now) (world_of c.self.inside.nodes packets) event a some in
    rw (e.1, e.2, ← c.self.view_is) (rw is (c.in_err-sent.ensures.fault packets))

pub returns-clause-ok : goal.returns-clause-ok
returns-clause-ok c =
    let event = event_seen c.args.event.now in
    let packets = map packet_seen c.self.inside.packets.items in
    let a = asked_of (c.in-Some.node, c.in-Some.call) in
    let seen : c.as_slice.result.now ≡ c.self.inside.packets.items = c.as_slice.ensures.value ∙ c.in_ok-reserve.ensures.items in
    let some : Some a ≡ asked packets event = c.in-Some.ensures ∙ ap (λ (ps : List Packet). asked (map packet_seen ps) event) seen in
    let is = asks (bytes_with c.args.routes.now) (world_of c.self.inside.nodes packets) event a some in
    let kept = ap (λ (ps : List Packet). posted (map packet_seen ps) (node_seen c.in-Some.node) (map sent_seen c.in_ok-sent.sent.items)) c.in_ok-reserve.ensures.items in
    let all : map packet_seen c.post.new.packets.items ≡ posted packets (node_seen c.in-Some.node) (map sent_seen c.in_ok-sent.sent.items) = c.post.ensures ∙ kept in
    rw (← c.self.view_is) (ap next_of (is ∙ c.in_ok-sent.ensures.ok packets) ∙ ap (λ (ps : List model.Packet). Some (world_of c.call.new.self ps)) (sym all))
