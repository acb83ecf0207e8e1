use Rattle.std.proofs.Common.{List, ap, ◌∙◌, refl, ◌++◌, ◌∷◌, [], Some}
use Rattle.claim_model.specs.Journal.{Journal, Entry}
use Rattle.pharmacy_journal.specs.declared.slot.Slot.{Slot}
use Rattle.pharmacy_journal.specs.declared.slot.Slot.TheVariants.{Waiting}
use Rattle.pharmacy_journal.proofs.Entering.{length-entries_of, length-phases, entries_of-push}
use Rattle.pharmacy_journal.proofs.Standing.{IsUp-push, some_phase}
use Rattle.pharmacy_journal.proofs.pharmacy.Pharmacy.keep.Goals as goal

pub enter-requires : goal.enter-requires
enter-requires c =
    let up = c.self.invariant in
    rw up.by_rule (some_phase _ _ _ up.kept.going.some_ticks up.kept.going.some_try up.kept.some_switch)

pub invariant_of-self-2 : goal.invariant_of-self-2
invariant_of-self-2 c =
    let p = c.self.inside in
    let items = c.push_reserved.ensures.items ∙ ap (λ (xs : List Slot). xs ++ Waiting c.args.txn ∷ []) c.reserve.ensures.items in
    let id = rw (← c.self.view_is, length-entries_of p.slots.items p.timetable.phases) at c.requires.id in
    let own = rw (← c.self.view_is) at c.requires.own in
    let room = rw (← c.self.view_is, length-entries_of p.slots.items p.timetable.phases) at c.requires.room in
    IsUp-push p.number p.settings p.rule p.timetable c.enter.new.self p.slots.items c.push_reserved.new.self.items (Waiting c.args.txn) c.self.invariant c.in_ok-enter.ensures.ok items refl (id, own) room

pub returns-clause-ok : goal.returns-clause-ok
returns-clause-ok c =
    let p = c.self.inside in
    let items = c.push_reserved.ensures.items ∙ ap (λ (xs : List Slot). xs ++ Waiting c.args.txn ∷ []) c.reserve.ensures.items in
    rw (← c.self.view_is, items, c.in_ok-enter.ensures.ok)
    (ap (λ (es : List Entry). let j : Journal = record { number = p.number; settings = p.settings; rule = p.rule; entries = es } in j)
    (entries_of-push p.slots.items p.timetable.phases (Waiting c.args.txn) (Some 0) (length-phases p.slots.items p.timetable.phases c.self.invariant.phases)))
