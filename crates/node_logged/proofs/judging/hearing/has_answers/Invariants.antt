use Rattle.std.proofs.Common.{◌≡◌, drop}
use Rattle.std.specs.List.{list_all}
use Rattle.node_logged.specs.Ledgers.{heard_at, is_answer}
use Rattle.node_logged.specs.LedgerSeen.{tills_seen}
use Rattle.node_logged.proofs.judging.hearing.has_answers.Given as goal

abbrev pub invariant-loop-till : goal.invariant-loop-till
invariant-loop-till l = list_all (is_answer l.ledger.entries) (heard_at l.ledger.pharmacy (tills_seen (drop l.till-index l.tills))) ≡ list_all (is_answer l.ledger.entries) (heard_at l.ledger.pharmacy (tills_seen l.tills))
