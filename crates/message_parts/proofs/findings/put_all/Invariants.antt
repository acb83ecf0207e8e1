use Rattle.std.proofs.Common.{◌≡◌, ◌++◌, map, take}
use Rattle.message_parts.specs.Causes.{cause_seen}
use Rattle.message_parts.specs.Findings.{Rejected, findings_seen}
use Rattle.message_parts.proofs.findings.put_all.Given as goal

-- the causes so far
abbrev pub invariant-loop-cause : goal.invariant-loop-cause
invariant-loop-cause l = findings_seen l.findings.items ≡ findings_seen l.fn.findings.items ++ map (Rejected l.transaction) (map cause_seen (take l.cause-index l.causes))
