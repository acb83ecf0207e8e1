use Rattle.std.proofs.Common.{◌≡◌, ℕ, ◌<◌, [], List, get_or}
use Rattle.std.specs.List.{AllByRecursion}
use Rattle.std.proofs.lemmas.List.{get_or_read}
use Rattle.pharmacy_journal.proofs.Turning.{each-set}
use Rattle.pharmacy_journal.proofs.timetable.leave_hole.Goals as goal

pub returns-clause-in_range : goal.returns-clause-in_range
returns-clause-in_range c =
    let items = c.args.buckets.now.items in
    let was : c.index_mut.result.now ≡ get_or items c.args.bucket [] = get_or_read items c.args.bucket _ c.requires c.index_mut.ensures.value [] in
    λ b n. each-set (λ (x y : List ℕ). AllByRecursion (λ k. k < n) x → AllByRecursion (λ k. k < n) y) (λ x h. h) items c.args.bucket c.leave_hole.new.self [] c.requires (rw was at (c.leave_hole.ensures.in_range n)) b
