use Rattle.std.proofs.Common.{◌++◌}
use Rattle.node_service.specs.Listing.{entry_lines, open_from}
use Rattle.node_service.proofs.OpenEntries.{IsToldBefore}
use Rattle.node_service.proofs.listing.put_entries.Given as goal

-- what is told, and then what is left to be told, is all
abbrev pub invariant-loop-place : goal.invariant-loop-place
invariant-loop-place l = IsToldBefore l.out.items (l.fn.out.items ++ entry_lines (open_from l.number l.count l.journal.entries)) l.place l.left l.journal.entries
