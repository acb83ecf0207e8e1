use Rattle.std.proofs.Common.{◌≡◌, ◌+◌, length, drop}
use Rattle.node_logged.specs.Ledgers.{receipts_at}
use Rattle.node_logged.specs.LedgerSeen.{tills_seen}
use Rattle.node_logged.proofs.judging.counting.counts_agree.Given as goal

abbrev pub invariant-loop-till : goal.invariant-loop-till
invariant-loop-till l =
    length (receipts_at l.ledger.pharmacy (tills_seen (drop l.till-index l.tills))) + length l.ledger.entries ≡ length (receipts_at l.ledger.pharmacy (tills_seen l.tills)) + l.left
