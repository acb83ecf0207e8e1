use Rattle.std.proofs.Common.{◌≡◌, ◌<◌, ◌+◌, ◌^◌, ◌++◌, List, drop, length, take}
use Rattle.claim_reports.specs.declared.ledger.Move.{Move}
use Rattle.claim_reports.specs.Ledger.{IsLedgerOf, moves_cause}
use Rattle.claim_reports.proofs.Ledgers.{TakesSome}
use Rattle.claim_reports.proofs.ledger.Ledger.take_all.Given as goal

-- the ledger after the rulings so far, what they moved, and that none of them is wrong
abbrev pub invariant-loop-place : goal.invariant-loop-place
invariant-loop-place l = record {
  takes : (before : List Move) → IsLedgerOf before l.initial.self → TakesSome before l.moves l.place l.initial.self l.self l.all.paid l.all.reversed;
  good :
      (before : List Move) → IsLedgerOf before l.initial.self → l.passed + length l.moves < 2 ^ 64
      → moves_cause before (l.passed + 1) 0 0 l.moves ≡ moves_cause (before ++ take l.place l.moves) (l.passed + l.place + 1) l.all.paid l.all.reversed (drop l.place l.moves);
}
