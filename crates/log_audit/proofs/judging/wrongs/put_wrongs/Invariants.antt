use Rattle.std.proofs.Common.{◌≡◌, ◌++◌, drop}
use Rattle.claim_model.specs.Bytes.{bytes_with}
use Rattle.world_setup.specs.Seen.{settings_seen}
use Rattle.node_log.specs.LogSeen.{logs_seen}
use Rattle.log_audit.specs.Sentences.{told_lines}
use Rattle.log_audit.specs.Wrongs.{wrong_lines}
use Rattle.log_audit.proofs.judging.wrongs.put_wrongs.Given as goal
use Rattle.world_setup.specs.Taken.{routes_in}

-- the lines so far, and then those on the logs that are left
abbrev pub invariant-loop-log : goal.invariant-loop-log
invariant-loop-log l =
    l.out.items ++ told_lines l.manner (wrong_lines (bytes_with (routes_in l.settings)) (settings_seen l.settings) (logs_seen (drop l.log-index l.logs)))
    ≡ l.initial.out.items ++ told_lines l.manner (wrong_lines (bytes_with (routes_in l.settings)) (settings_seen l.settings) (logs_seen l.logs))
