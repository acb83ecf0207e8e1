use Rattle.std.proofs.Common.{◌≡◌, ◌++◌, drop}
use Rattle.claim_model.specs.Bytes.{bytes_with}
use Rattle.node_log.specs.LogSeen.{logs_seen}
use Rattle.log_audit.specs.AloneSeen.{lones_seen}
use Rattle.log_audit.specs.Lones.{lones_from}
use Rattle.log_audit.proofs.alone.report.lones_by.Given as goal
use Rattle.world_setup.specs.Taken.{routes_in}

-- what the logs so far come to, and then those that are left
abbrev pub invariant-loop-place : goal.invariant-loop-place
invariant-loop-place l =
    lones_seen l.lones.items ++ lones_from (bytes_with (routes_in l.settings)) l.settings l.rests l.torn l.place (logs_seen (drop l.place l.logs))
    ≡ lones_from (bytes_with (routes_in l.settings)) l.settings l.rests l.torn 0 (logs_seen l.logs)
