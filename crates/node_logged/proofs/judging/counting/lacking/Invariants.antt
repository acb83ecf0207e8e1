use Rattle.std.proofs.Common.{◌≡◌, drop}
use Rattle.node_logged.specs.Ledgers.{lacking}
use Rattle.node_logged.specs.LedgerSeen.{tills_seen}
use Rattle.node_logged.proofs.judging.counting.lacking.Given as goal

abbrev pub invariant-loop-ledger : goal.invariant-loop-ledger
invariant-loop-ledger l = lacking (tills_seen l.tills) (drop l.ledger-index l.ledgers) ≡ lacking (tills_seen l.tills) l.ledgers
