use Rattle.std.proofs.Common.{◌≡◌, ◌++◌}
use Rattle.node_log.specs.LogSeen.{logs_seen}
use Rattle.log_audit.specs.Sentences.{told_lines}
use Rattle.log_audit.specs.Lacks.{lacks_up_to}
use Rattle.log_audit.proofs.judging.missing.put_lacks.Given as goal

-- the lines on the nodes so far
abbrev pub invariant-loop-passed : goal.invariant-loop-passed
invariant-loop-passed l = l.out.items ≡ l.initial.out.items ++ told_lines l.manner (lacks_up_to (logs_seen l.logs) l.kind l.passed)
