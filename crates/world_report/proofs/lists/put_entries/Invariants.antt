use Rattle.std.proofs.Common.{◌≡◌, ◌++◌, length}
use Rattle.std.specs.List.{flat_map}
use Rattle.pharmacy_journal.specs.Listing.{listed_from}
use Rattle.world_report.specs.Words.{lines_text}
use Rattle.world_report.specs.Places.{entry_lines}
use Rattle.world_report.proofs.lists.put_entries.Given as goal

-- the lines so far, and then those of the entries that are left
abbrev pub invariant-entries : goal.invariant-entries
invariant-entries l = record {
  lines : l.out.items ++ lines_text (flat_map entry_lines (listed_from l.teller.number l.teller.left)) ≡ l.initial.out.items ++ lines_text (flat_map entry_lines (listed_from l.initial.teller.number l.initial.teller.left));
  same : l.teller.entries ≡ l.initial.teller.entries;
}

abbrev pub decreases-entries : goal.decreases-entries
decreases-entries l = length l.teller.left
