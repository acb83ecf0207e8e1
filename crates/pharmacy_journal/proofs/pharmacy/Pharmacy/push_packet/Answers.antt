use Rattle.std.proofs.Common.{◌≡◌, ℕ, ◌<◌, List, length, sym, ap, ◌∙◌, arith, refl, map, ◌++◌, ◌∷◌, []}
use Rattle.std.specs.Prelude.{slice_index}
use Rattle.std.proofs.lemmas.List.{append-nil, map-append}
use Rattle.std.proofs.lemmas.Option.{slice_get_read}
use Rattle.envelope.specs.Envelope.{envelope_text}
use Rattle.claim_model.specs.Words.{Request}
use Rattle.claim_model.specs.Journal.{Sending}
use Rattle.claim_model.specs.Node.{Sent, to_switch}
use Rattle.pharmacy_journal.proofs.Entering.{length-entries_of, length-phases}
use Rattle.pharmacy_journal.proofs.Standing.{packet_at-none, packet_at-open, packet_at-settled, exists_at}
use Rattle.pharmacy_journal.proofs.pharmacy.Pharmacy.push_packet.Goals as goal

pub next_node-requires : goal.next_node-requires
next_node-requires g c =
    let slots = c.self.inside.slots.items in
    let phases = c.self.inside.timetable.phases in
    let within = rw (← c.self.view_is, length-entries_of slots phases) at c.requires in
    rw (length-phases slots phases c.self.invariant.phases) within

pub returns-in_default : goal.returns-in_default
returns-in_default g c =
    let p = c.self.inside in
    let within = rw (← c.self.view_is, length-entries_of p.slots.items p.timetable.phases) at c.requires in
    let slot = exists_at p.slots.items c.args.place within in
    let none = packet_at-none p.number p.settings p.rule p.timetable p.slots.items c.args.place slot.0 c.self.invariant slot.1 c.in_default.ensures.value in
    rw (← c.self.view_is) (sym (ap (λ (ps : List Sending). map g.S.ForSwitch.seen c.args.sent.now.items ++ map to_switch ps) none ∙ append-nil (map g.S.ForSwitch.seen c.args.sent.now.items)))

pub returns-in_ok-push : goal.returns-in_ok-push
returns-in_ok-push g c =
    let p = c.self.inside in
    let within = rw (← c.self.view_is, length-entries_of p.slots.items p.timetable.phases) at c.requires in
    let is = slice_get_read p.slots.items _ c.args.place c.index.result.now refl within c.index.ensures in
    let open_is = is ∙ ap (λ s. Rattle.std.proofs.Common.Some s) c.in-Waiting.is in
    let packet = packet_at-open p.number p.settings p.rule p.timetable p.slots.items c.args.place c.in-Waiting.txn c.in-Some.node c.self.invariant open_is c.in-Some.ensures.value in
    let made : g.S.ForSwitch.seen c.for_switch.result ≡ to_switch (record { switch = slice_index p.rule.nodes c.in-Some.node; bytes = envelope_text Request c.in-Waiting.txn.id c.in-Waiting.txn.request }) =
    c.for_switch.ensures ∙ ap (λ (ns : List ℕ). to_switch (record { switch = slice_index ns c.in-Some.node; bytes = c.in_ok-packet.packet })) c.nodes.ensures.value ∙ ap (λ (b : List ℕ). to_switch (record { switch = slice_index p.rule.nodes c.in-Some.node; bytes = b })) c.in_ok-packet.ensures in
    let old = map g.S.ForSwitch.seen c.args.sent.now.items in
    rw (← c.self.view_is)
    (ap (map g.S.ForSwitch.seen) c.in_ok-push.ensures.items
    ∙ map-append g.S.ForSwitch.seen c.args.sent.now.items (c.for_switch.result ∷ [])
    ∙ ap (λ (x : Sent). old ++ x ∷ []) made
    ∙ ap (λ (ps : List Sending). old ++ map to_switch ps) (sym packet))

pub returns-in_default-index : goal.returns-in_default-index
returns-in_default-index g c =
    let p = c.self.inside in
    let within = rw (← c.self.view_is, length-entries_of p.slots.items p.timetable.phases) at c.requires in
    let is = slice_get_read p.slots.items _ c.args.place c.index.result.now refl within c.index.ensures in
    let settled = packet_at-settled p.number p.settings p.rule p.timetable p.slots.items c.args.place c.index.result.now c.self.invariant is (rw c.in_default-index.is refl) in
    rw (← c.self.view_is) (sym (ap (λ (ps : List Sending). map g.S.ForSwitch.seen c.args.sent.now.items ++ map to_switch ps) settled ∙ append-nil (map g.S.ForSwitch.seen c.args.sent.now.items)))
