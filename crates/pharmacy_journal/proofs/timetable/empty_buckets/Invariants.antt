use Rattle.std.proofs.Common.{◌≡◌, ℕ, [], length, slice_index_or}
use Rattle.pharmacy_journal.proofs.timetable.empty_buckets.Given as goal

abbrev pub invariant-loop : goal.invariant-loop
invariant-loop l = record { as_many : length l.buckets.items ≡ l.counter; empty : (b : ℕ) → slice_index_or l.buckets.items b [] ≡ [] }
