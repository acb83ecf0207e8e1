use Rattle.std.proofs.Common.{◌<◌}
use Rattle.pharmacy_journal.specs.Timetable.{is_open}
use Rattle.pharmacy_journal.proofs.OpenPlaces.{AllByRecursion-filter}
use Rattle.pharmacy_journal.proofs.bucket.Bucket.leave_hole.Goals as goal

pub returns-else-self-len-clause-in_range : goal.returns-else-self-len-clause-in_range
returns-else-self-len-clause-in_range c =
    rw (c.close_holes.ensures, ← c.self.view_is) (λ n h. AllByRecursion-filter (λ k. k < n) (is_open c.args.leads.now) c.self.inside.places.items h)
