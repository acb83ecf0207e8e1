use Rattle.std.proofs.Common.{◌≡◌, ◌≤◌, ◌++◌, length, take, drop}
use Rattle.claim_model.specs.Counted.{firsts}
use Rattle.pharmacy_journal.specs.Counting.{without}
use Rattle.pharmacy_journal.proofs.counting.first_of_each.Given as goal

-- those that are counted so far, and then those that are counted of what is left
abbrev pub invariant-loop-place : goal.invariant-loop-place
invariant-loop-place l = record {
  behind : l.kept ≤ l.place;
  same : length l.payments.items ≡ length l.initial.payments.items;
  rest : drop l.place l.payments.items ≡ drop l.place l.initial.payments.items;
  counted : take l.kept l.payments.items ++ without l.seen.keys (firsts (drop l.place l.initial.payments.items)) ≡ without l.initial.seen.keys (firsts l.initial.payments.items);
}
