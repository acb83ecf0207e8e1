use Rattle.std.proofs.Common.{◌≡◌, ◌+◌, ◌++◌, drop, map}
use Rattle.pharmacy_journal.specs.Entries.{kept_of}
use Rattle.pharmacy_journal.specs.Listing.{listed_from}
use Rattle.pharmacy_journal.proofs.listing.list_of.Given as goal

abbrev pub invariant-loop-slot : goal.invariant-loop-slot
invariant-loop-slot l = record {
  number : l.number ≡ l.slot-index + 1;
  views : l.views.items ++ listed_from l.number (map kept_of (drop l.slot-index l.slots)) ≡ listed_from 1 (map kept_of l.slots);
}
