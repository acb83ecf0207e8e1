use Rattle.std.proofs.Common.{◌≡◌, ◌+◌, drop}
use Rattle.log_audit.specs.Wrongs.{common}
use Rattle.log_audit.proofs.judging.wrongs.common.Given as goal

-- the bytes so far are the same
abbrev pub invariant-loop-passed : goal.invariant-loop-passed
invariant-loop-passed l = l.passed + common (drop l.passed l.made) (drop l.passed l.kept) ≡ common l.made l.kept
