use Rattle.node_log.specs.LogSeen.{logs_seen}
use Rattle.run_merge.proofs.Covering.{HaveLogs}
use Rattle.run_merge.proofs.history.have_logs.Given as goal

abbrev pub invariant-loop-place : goal.invariant-loop-place
invariant-loop-place l = HaveLogs l.place l.settings (logs_seen l.logs)
