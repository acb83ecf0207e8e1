use Rattle.std.proofs.Common.{◌≡◌}
use Rattle.std.specs.List.{list_all}
use Rattle.node_logged.specs.Ledgers.{is_answer}
use Rattle.node_logged.proofs.judging.hearing.has_answers_of.Given as goal

abbrev pub invariant-loop-number : goal.invariant-loop-number
invariant-loop-number l = list_all (is_answer l.ledger.entries) l.number-iterator ≡ list_all (is_answer l.ledger.entries) l.initial.number-iterator
