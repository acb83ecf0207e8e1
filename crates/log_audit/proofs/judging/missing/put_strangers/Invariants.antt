use Rattle.std.proofs.Common.{◌≡◌, ◌++◌, drop}
use Rattle.world_setup.specs.Seen.{settings_seen}
use Rattle.node_log.specs.LogSeen.{logs_seen}
use Rattle.log_audit.specs.Sentences.{told_lines}
use Rattle.log_audit.specs.Lacks.{strangers}
use Rattle.log_audit.proofs.judging.missing.put_strangers.Given as goal

-- the lines so far, and then those on the logs that are left
abbrev pub invariant-loop-log : goal.invariant-loop-log
invariant-loop-log l =
    l.out.items ++ told_lines l.manner (strangers (settings_seen l.settings) (logs_seen (drop l.log-index l.logs)))
    ≡ l.initial.out.items ++ told_lines l.manner (strangers (settings_seen l.settings) (logs_seen l.logs))
