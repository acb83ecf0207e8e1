use Rattle.std.proofs.Common.{drop}
use Rattle.node_logged.specs.Ledgers.{receipts_at}
use Rattle.node_logged.specs.LedgerSeen.{tills_seen}
use Rattle.node_logged.specs.Marked.{Marks}
use Rattle.node_logged.proofs.judging.receipts.has_receipts.Given as goal

abbrev pub invariant-loop-till : goal.invariant-loop-till
invariant-loop-till l = Marks l.ledger.entries (receipts_at l.ledger.pharmacy (tills_seen (drop l.till-index l.tills))) (receipts_at l.ledger.pharmacy (tills_seen l.tills)) l.marks.items
