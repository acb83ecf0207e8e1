use Rattle.std.proofs.Common.{◌≡◌, ◌++◌}
use Rattle.log_audit.specs.Ledger.{paid_up_to}
use Rattle.log_audit.proofs.report.paid.put_paid_up_to.Given as goal

-- the lines of the pharmacies so far
abbrev pub invariant-loop-passed : goal.invariant-loop-passed
invariant-loop-passed l = l.out.items ≡ l.initial.out.items ++ paid_up_to l.number l.paid l.passed
