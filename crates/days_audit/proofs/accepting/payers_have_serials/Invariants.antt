use Rattle.std.proofs.Common.{drop}
use Rattle.std.specs.List.{AllByRecursion}
use Rattle.days_audit.specs.Promised.{HasSerial}
use Rattle.days_audit.proofs.accepting.payers_have_serials.Given as goal

-- where those that are left are such, all are
abbrev pub invariant-loop-each : goal.invariant-loop-each
invariant-loop-each l = AllByRecursion HasSerial (drop l.each-index l.settings) → AllByRecursion HasSerial l.settings
