use Rattle.std.proofs.Common.{◌≡◌, ◌++◌, drop}
use Rattle.std.specs.Ordering.{nat_cmp}
use Rattle.std.specs.BTreeMap.{get}
use Rattle.claim_reports.specs.Received.{receipt_rows}
use Rattle.claim_reports.proofs.receipts.put_findings.Given as goal

-- the rows so far, and then those of the receipts that are left
abbrev pub invariant-loop-receipt : goal.invariant-loop-receipt
invariant-loop-receipt l =
    l.out.items ++ receipt_rows (get nat_cmp l.held) (get nat_cmp l.came) (drop l.receipt-index l.told) ≡ l.initial.out.items ++ receipt_rows (get nat_cmp l.held) (get nat_cmp l.came) l.told
