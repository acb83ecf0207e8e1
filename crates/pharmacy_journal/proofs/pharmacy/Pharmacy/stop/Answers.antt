use Rattle.pharmacy_journal.proofs.StopStart.{stopped-seen}
use Rattle.pharmacy_journal.proofs.pharmacy.Pharmacy.stop.Goals as goal

pub returns : goal.returns
returns c = let p = c.self.inside in rw (← c.self.view_is) (stopped-seen p.number p.settings p.rule p.timetable p.slots.items)
