use Rattle.std.proofs.Common.{◌≡◌, [], get_or, sym, ◌∙◌, arith}
use Rattle.std.proofs.lemmas.List.{length-map, get_or_read}
use Rattle.pharmacy_journal.proofs.Turning.{due_next-bucket, open_by_phase}
use Rattle.pharmacy_journal.proofs.timetable.Timetable.due_next.Goals as goal

pub returns-clause-due : goal.returns-clause-due
returns-clause-due c =
    let b = c.next_bucket-bucket.result in
    let t = c.self.inside in
    let kept = c.self.invariant in
    let due = due_next-bucket t.retry b t.leads.items c.next_bucket-bucket.ensures.due in
    let at : c.index.result.now ≡ get_or t.buckets.items b [] = get_or_read t.buckets.items b _ (omega (arith, kept.as_many, c.next_bucket-bucket.ensures.in_range)) c.index.ensures [] in
    rw (← c.self.view_is, c.places.ensures, at) (open_by_phase t.retry t.leads.items (get_or t.buckets.items b []) ∙ kept.by_lead b c.next_bucket-bucket.ensures.in_range ∙ sym due)

pub returns-clause-in_range : goal.returns-clause-in_range
returns-clause-in_range c =
    let b = c.next_bucket-bucket.result in
    let t = c.self.inside in
    let kept = c.self.invariant in
    let at : c.index.result.now ≡ get_or t.buckets.items b [] = get_or_read t.buckets.items b _ (omega (arith, kept.as_many, c.next_bucket-bucket.ensures.in_range)) c.index.ensures [] in
    rw (← c.self.view_is, c.places.ensures, at, length-map t.leads.items _) (kept.in_range b c.next_bucket-bucket.ensures.in_range)
