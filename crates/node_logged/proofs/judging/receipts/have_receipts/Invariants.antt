use Rattle.std.proofs.Common.{◌≡◌, drop}
use Rattle.std.specs.List.{list_all}
use Rattle.node_logged.specs.Ledgers.{has_receipts}
use Rattle.node_logged.specs.LedgerSeen.{tills_seen}
use Rattle.node_logged.proofs.judging.receipts.have_receipts.Given as goal

abbrev pub invariant-loop-ledger : goal.invariant-loop-ledger
invariant-loop-ledger l = list_all (has_receipts (tills_seen l.tills)) (drop l.ledger-index l.ledgers) ≡ list_all (has_receipts (tills_seen l.tills)) l.ledgers
