use Rattle.std.proofs.Common.{◌≡◌, drop}
use Rattle.std.specs.List.{list_all}
use Rattle.node_logged.specs.Ledgers.{has_answers}
use Rattle.node_logged.specs.LedgerSeen.{tills_seen}
use Rattle.node_logged.proofs.judging.hearing.have_answers.Given as goal

abbrev pub invariant-loop-ledger : goal.invariant-loop-ledger
invariant-loop-ledger l = list_all (has_answers (tills_seen l.tills)) (drop l.ledger-index l.ledgers) ≡ list_all (has_answers (tills_seen l.tills)) l.ledgers
