use Rattle.std.proofs.Common.{rules}
use Rattle.pharmacy_journal.proofs.Entering.{length-entries_of}
use Rattle.pharmacy_journal.proofs.StopStart.{stopped-seen, made_of}
use Rattle.pharmacy_journal.proofs.pharmacy.Pharmacy.entries.Goals as goal

pub returns-clause-value : goal.returns-clause-value
returns-clause-value c = rw (← c.self.view_is, length-entries_of c.self.inside.slots.items c.self.inside.timetable.phases) (search rules)

pub returns-clause-made : goal.returns-clause-made
returns-clause-made c =
    let p = c.self.inside in
    rw (← c.self.view_is) (made_of p.number p.settings p.rule p.slots.items _ c.self.invariant.kept (stopped-seen p.number p.settings p.rule p.timetable p.slots.items))
