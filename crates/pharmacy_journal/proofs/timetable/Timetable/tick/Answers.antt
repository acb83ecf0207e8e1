use Rattle.pharmacy_journal.proofs.Turning.{seen_phases-turned}
use Rattle.pharmacy_journal.proofs.timetable.Timetable.tick.Goals as goal

pub returns : goal.returns
returns c = rw (← c.self.view_is, c.tick.ensures, seen_phases-turned c.self.inside.retry c.self.inside.leads.items)
