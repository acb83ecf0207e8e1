use Rattle.std.proofs.Common.{◌≡◌, ℕ, [], ◌∷◌, ◌++◌, length, set, get_or, ap, ◌∙◌, rules}
use Rattle.pharmacy_journal.proofs.Turning.{IsKept-open}
use Rattle.pharmacy_journal.proofs.timetable.Timetable.enter.Goals as goal

pub invariant_of-self-2 : goal.invariant_of-self-2
invariant_of-self-2 c =
    IsKept-open _ c.self.inside.leads.items _ c.self.inside.buckets.items _ c.lead_to-lead.result c.bucket_of-bucket.result c.self.invariant c.lead_to-lead.ensures.on_circle c.bucket_of-bucket.ensures.value c.bucket_of-bucket.ensures.in_range (cc (c.reserve.ensures.items, c.push_reserved.ensures.items))
    (let n : c.len-place.result ≡ length c.self.inside.leads.items = search rules in
    c.in_ok-put.ensures.ok ∙ ap (λ (n : ℕ). set c.self.inside.buckets.items c.bucket_of-bucket.result (get_or c.self.inside.buckets.items c.bucket_of-bucket.result [] ++ n ∷ [])) n)
