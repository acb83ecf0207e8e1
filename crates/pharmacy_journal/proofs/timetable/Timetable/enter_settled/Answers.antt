use Rattle.pharmacy_journal.proofs.Turning.{IsKept-settled}
use Rattle.pharmacy_journal.proofs.timetable.Timetable.enter_settled.Goals as goal

pub invariant_of-self-2 : goal.invariant_of-self-2
invariant_of-self-2 c = IsKept-settled _ _ _ _ c.self.invariant c.in_ok-push.ensures.items
