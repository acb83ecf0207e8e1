use Rattle.std.proofs.Common.{◌≡◌, ◌++◌, drop}
use Rattle.claim_reports.specs.Compared.{finding_rows}
use Rattle.claim_reports.proofs.comparing.put_findings.Given as goal

-- the rows so far, and then those of the findings that are left
abbrev pub invariant-loop-finding : goal.invariant-loop-finding
invariant-loop-finding l = l.out.items ++ finding_rows (drop l.finding-index l.found) ≡ l.initial.out.items ++ finding_rows l.found
