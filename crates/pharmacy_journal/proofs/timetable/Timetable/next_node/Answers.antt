use Rattle.std.proofs.Common.{sym, ◌∙◌, None}
use Rattle.std.proofs.lemmas.List.{get_or_read}
use Rattle.pharmacy_journal.proofs.Turning.{next_phase-at, next_phase-at_none, inside-place}
use Rattle.pharmacy_journal.proofs.timetable.Timetable.next_node.Goals as goal

pub returns-in-Some-clause-value : goal.returns-in-Some-clause-value
returns-in-Some-clause-value c =
    let in_list = inside-place _ _ _ _ c.self.view_is c.requires in
    let is = sym (get_or_read c.self.inside.leads.items c.args.place _ in_list c.index.ensures None) ∙ c.in-Some.is in
    rw (← c.self.view_is, next_phase-at c.self.inside.retry c.self.inside.leads.items c.args.place c.in-Some.lead in_list is, c.next_node.ensures.value)

pub returns-in-None-clause-value : goal.returns-in-None-clause-value
returns-in-None-clause-value c =
    let in_list = inside-place _ _ _ _ c.self.view_is c.requires in
    let is = sym (get_or_read c.self.inside.leads.items c.args.place _ in_list c.index.ensures None) ∙ c.in-None.is in
    rw (← c.self.view_is, next_phase-at_none c.self.inside.retry c.self.inside.leads.items c.args.place in_list is)
