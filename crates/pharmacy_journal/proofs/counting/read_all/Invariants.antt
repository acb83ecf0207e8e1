use Rattle.std.proofs.Common.{◌≡◌, ◌++◌, ◌||◌, drop, map}
use Rattle.std.specs.List.{list_any, filter_map}
use Rattle.claim_model.specs.Words.{Auth}
use Rattle.pharmacy_journal.specs.Entries.{kept_of}
use Rattle.pharmacy_journal.specs.Counting.{outcomes, named_in, outcome_reverses, has_auth}
use Rattle.pharmacy_journal.proofs.counting.read_all.Given as goal

abbrev pub invariant-loop-slot : goal.invariant-loop-slot
invariant-loop-slot l = record {
  named : l.told.named.items ++ filter_map named_in (outcomes (map kept_of (drop l.slot-index l.slots))) ≡ filter_map named_in (outcomes (map kept_of l.slots));
  reversed : (a : Auth) → (has_auth l.told.reversed.keys a || list_any (outcome_reverses a) (outcomes (map kept_of (drop l.slot-index l.slots)))) ≡ list_any (outcome_reverses a) (outcomes (map kept_of l.slots));
}
