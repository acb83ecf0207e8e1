use Rattle.std.proofs.Common.{◌≡◌, ◌++◌}
use Rattle.claim_reports.specs.Totalled.{total_rows}
use Rattle.claim_reports.proofs.totalling.put_totals.Given as goal

-- the rows so far, and then those of the numbers that are left
abbrev pub invariant-loop-number : goal.invariant-loop-number
invariant-loop-number l = l.out.items ++ total_rows l.by l.name l.number-iterator ≡ l.initial.out.items ++ total_rows l.by l.name l.initial.number-iterator
