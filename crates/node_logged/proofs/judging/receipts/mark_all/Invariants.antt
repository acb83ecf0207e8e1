use Rattle.std.proofs.Common.{◌++◌, drop, List}
use Rattle.node_logged.specs.Tills.{Receipt}
use Rattle.node_logged.specs.Marked.{Marks}
use Rattle.node_logged.proofs.judging.receipts.mark_all.Given as goal

abbrev pub invariant-loop-receipt : goal.invariant-loop-receipt
invariant-loop-receipt l = (left all : List Receipt) → Marks l.ledger.entries (l.receipts ++ left) all l.initial.marks → Marks l.ledger.entries (drop l.receipt-index l.receipts ++ left) all l.marks
