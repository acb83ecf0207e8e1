use Rattle.std.proofs.Common.{◌≡◌, ◌++◌, drop}
use Rattle.node_log.specs.LogSeen.{logs_seen}
use Rattle.audit_run.specs.Completing.{switches_among}
use Rattle.audit_run.proofs.completing.switches_among.Given as goal

-- the numbers so far, and then those of the logs that are left
abbrev pub invariant-loop-log : goal.invariant-loop-log
invariant-loop-log l = l.numbers.items ++ switches_among (logs_seen (drop l.log-index l.logs)) ≡ switches_among (logs_seen l.logs)
