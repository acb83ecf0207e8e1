use Rattle.std.proofs.Common.{sym, ◌∙◌, None}
use Rattle.std.proofs.lemmas.List.{get_or_read}
use Rattle.pharmacy_journal.proofs.Turning.{IsKept-unset, seen_phases-set, seen_phases-settled, inside-place}
use Rattle.pharmacy_journal.proofs.timetable.Timetable.settle.Goals as goal

pub invariant_of-self : goal.invariant_of-self
invariant_of-self c =
    let in_list = inside-place _ _ _ _ c.self.view_is c.requires in
    IsKept-unset _ c.self.inside.leads.items c.self.inside.buckets.items _ c.args.place c.self.invariant in_list c.leave_hole.ensures.as_many (rw c.as_slice.ensures.value at c.leave_hole.ensures.same_open) c.leave_hole.ensures.in_range

pub returns-in-Some : goal.returns-in-Some
returns-in-Some c = rw (← c.self.view_is, seen_phases-set c.self.inside.retry c.self.inside.leads.items c.args.place)

pub returns-in_default : goal.returns-in_default
returns-in_default c =
    let in_list = inside-place _ _ _ _ c.self.view_is c.requires in
    let is = sym (get_or_read c.self.inside.leads.items c.args.place _ in_list c.index.ensures None) ∙ c.in_default.is in
    rw (← c.self.view_is, seen_phases-settled c.self.inside.retry c.self.inside.leads.items c.args.place in_list is)
