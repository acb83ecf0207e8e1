use Rattle.std.proofs.Common.{◌≡◌, take, map}
use Rattle.node_log.specs.LogSeen.{logs_seen}
use Rattle.log_audit.specs.Waits.{Progress}
use Rattle.log_audit.specs.WaitsSeen.{progress_seen}
use Rattle.log_audit.proofs.judging.waiting.progress_of.Given as goal

-- the logs so far
abbrev pub invariant-loop-place : goal.invariant-loop-place
invariant-loop-place l = map (λ (p : Progress). p.log) (map progress_seen l.lines.items) ≡ logs_seen (take l.place l.logs)
