use Rattle.std.proofs.Common.{List, map, ap, ◌∙◌}
use Rattle.pharmacy_journal.specs.Settings.{rule_of}
use Rattle.pharmacy_journal.specs.Timetable.{Rounds}
use Rattle.pharmacy_journal.specs.Resting.{restarted_phase}
use Rattle.pharmacy_journal.specs.declared.slot.Slot.{Slot}
use Rattle.pharmacy_journal.proofs.StopStart.{started-seen, IsUp-started}
use Rattle.pharmacy_journal.proofs.at_rest.JournalAtRest.start.Goals as goal

pub invariant_of-result : goal.invariant_of-result
invariant_of-result c =
    let j = c.self.inside in
    let made = c.in-Ok.ensures ∙ ap (λ (xs : List Slot). let t : Rounds = record { rule = rule_of j.rule; phases = map (restarted_phase (rule_of j.rule)) xs } in t) c.deref.ensures.value in
    IsUp-started j.number j.settings j.rule c.in-Ok.timetable j.slots.items c.self.invariant made

pub returns-in-Ok-clause-ok : goal.returns-in-Ok-clause-ok
returns-in-Ok-clause-ok c =
    let j = c.self.inside in
    let made = c.in-Ok.ensures ∙ ap (λ (xs : List Slot). let t : Rounds = record { rule = rule_of j.rule; phases = map (restarted_phase (rule_of j.rule)) xs } in t) c.deref.ensures.value in
    rw (← c.self.view_is) (started-seen j.number j.settings j.rule c.in-Ok.timetable j.slots.items made)
