use Rattle.std.proofs.Common.{◌≡◌, ◌<◌, ◌++◌, length, map, sym, ap, ◌∙◌}
use Rattle.std.specs.List.{flat_map}
use Rattle.std.proofs.lemmas.List.Elements.{All-from_recursion}
use Rattle.claim_model.specs.Journal.{Journal, ticked}
use Rattle.claim_model.specs.Node.{to_switch}
use Rattle.pharmacy_journal.specs.Sendings.{packet_at, sent_at, due_packets}
use Rattle.pharmacy_journal.proofs.Entering.{length-entries_of}
use Rattle.pharmacy_journal.proofs.Sends.{sent_at_places}
use Rattle.pharmacy_journal.proofs.Standing.{due_next-places, packets_of_open, in_entries}
use Rattle.pharmacy_journal.proofs.pharmacy.Pharmacy.due_packets.Goals as goal

pub loop-place-init : goal.loop-place-init
unfolding due_packets
loop-place-init g c =
    let p = c.self.inside in
    let ps = c.due_next-places.result.now in
    let entries : length p.slots.items ≡ length c.args.self.now.entries = sym (length-entries_of p.slots.items p.timetable.phases) ∙ ap (λ (j : Journal). length j.entries) c.self.view_is in
    let within = in_entries p.slots.items p.timetable.phases ps c.self.invariant.phases c.due_next-places.ensures.in_range in
    let opened = packets_of_open p.number p.settings p.rule p.timetable p.slots.items ps c.self.invariant within in
    let due = c.due_next-places.ensures.due ∙ due_next-places p.number p.settings p.rule p.timetable p.slots.items c.self.invariant in
    let all : flat_map (packet_at (ticked c.args.self.now)) ps ≡ due_packets (ticked c.args.self.now) =
    rw (← c.self.view_is) (opened ∙ ap (flat_map (packet_at (ticked (Rattle.pharmacy_journal.proofs.Standing.seen p.number p.settings p.rule p.timetable p.slots.items)))) due) in
    record {
      sent = ap (λ xs. map g.S.ForSwitch.seen xs ++ flat_map (sent_at (ticked c.args.self.now)) ps) c.in_ok-sent.ensures.items
          ∙ sent_at_places (ticked c.args.self.now) ps ∙ ap (map to_switch) all;
      places = rw (← entries) (All-from_recursion (λ k. k < length p.slots.items) ps within);
    }
