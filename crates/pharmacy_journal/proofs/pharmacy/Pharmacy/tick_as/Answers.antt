use Rattle.std.proofs.Common.{◌≡◌, ◌≤◌, ℕ, [], length, map, sym, ap, ◌∙◌, subst}
use Rattle.std.proofs.lemmas.List.{length-map}
use Rattle.claim_model.specs.Bytes.{bytes_with}
use Rattle.claim_model.specs.Journal.{Journal, due, ticked}
use Rattle.bin_routes.specs.Table.{routes_of}
use Rattle.claim_model.specs.Node.{to_switch}
use Rattle.pharmacy_journal.proofs.Dues.{due_is}
use Rattle.pharmacy_journal.proofs.Few.{due_at_most}
use Rattle.pharmacy_journal.proofs.Standing.{IsUp-ticked, seen-ticked}
use Rattle.pharmacy_journal.proofs.pharmacy.Pharmacy.tick_as.Goals as goal

pub invariant_of-self : goal.invariant_of-self
invariant_of-self g c = let p = c.self.inside in IsUp-ticked p.number p.settings p.rule p.timetable c.tick.new.self p.slots.items c.self.invariant c.tick.ensures

pub returns-clause-ok : goal.returns-clause-ok
returns-clause-ok g c = let p = c.self.inside in rw (← c.self.view_is, c.tick.ensures) (seen-ticked p.number p.settings p.rule p.timetable p.slots.items c.self.invariant)

pub returns-clause-sent : goal.returns-clause-sent
returns-clause-sent g c = λ routes.
    let p = c.self.inside in
    rw c.tick.ensures
    (c.in_ok-sent.ensures
    ∙ ap (map to_switch) (sym (due_is routes (ticked c.args.self.now)) ∙ ap (λ (j : Journal). due (bytes_with routes) (ticked j)) (sym c.self.view_is) ∙ ap (due (bytes_with routes)) (sym (seen-ticked p.number p.settings p.rule p.timetable p.slots.items c.self.invariant))))

pub returns-clause-few : goal.returns-clause-few
returns-clause-few g c =
    let due = due (bytes_with (routes_of [])) (ticked c.args.self.now) in
    let packets : map g.S.ForSwitch.seen c.in_ok-sent.sent.items ≡ map to_switch due = c.in_ok-sent.ensures ∙ ap (map to_switch) (sym (due_is (routes_of []) (ticked c.args.self.now))) in
    let count : length c.in_ok-sent.sent.items ≡ length due = sym (length-map c.in_ok-sent.sent.items g.S.ForSwitch.seen) ∙ ap length packets ∙ length-map due to_switch in
    subst (λ (n : ℕ). n ≤ length c.args.self.now.entries) (sym count) (due_at_most (bytes_with (routes_of [])) c.args.self.now)
