use Rattle.std.proofs.Common.{◌≡◌, ◌++◌, drop}
use Rattle.std.specs.Prelude.{slice_index}
use Rattle.node_log.specs.LogSeen.{logs_seen}
use Rattle.log_audit.specs.Texts.{texts_from}
use Rattle.log_audit.specs.Telling.{log_line, log_lines}
use Rattle.log_audit.proofs.report.put_logs.Given as goal

-- the lines so far, and then those of the logs that are left
abbrev pub invariant-loop-place : goal.invariant-loop-place
invariant-loop-place l =
    l.text.items ++ texts_from (λ place log. log_line log (slice_index l.torn place)) l.place (logs_seen (drop l.place l.logs))
    ≡ l.initial.text.items ++ log_lines (logs_seen l.logs) l.torn
