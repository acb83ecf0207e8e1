use Rattle.std.proofs.Common.{◌≡◌, ◌+◌, ◌++◌, ◌||◌, drop, map}
use Rattle.std.specs.List.{list_any, filter_map}
use Rattle.claim_model.specs.Words.{Auth}
use Rattle.pharmacy_journal.specs.Entries.{kept_of}
use Rattle.pharmacy_journal.specs.Listing.{listed_from}
use Rattle.pharmacy_journal.specs.Counting.{outcomes, named_in, outcome_reverses, has_auth}
use Rattle.pharmacy_journal.proofs.telling.read_both.Given as goal

-- the entries and what is told so far, and then what is left of both
abbrev pub invariant-loop-slot : goal.invariant-loop-slot
invariant-loop-slot l = record {
  number : l.number ≡ l.slot-index + 1;
  views : l.views.items ++ listed_from l.number (map kept_of (drop l.slot-index l.slots)) ≡ listed_from 1 (map kept_of l.slots);
  named : l.told.named.items ++ filter_map named_in (outcomes (map kept_of (drop l.slot-index l.slots))) ≡ filter_map named_in (outcomes (map kept_of l.slots));
  reversed : (a : Auth) → (has_auth l.told.reversed.keys a || list_any (outcome_reverses a) (outcomes (map kept_of (drop l.slot-index l.slots)))) ≡ list_any (outcome_reverses a) (outcomes (map kept_of l.slots));
}
