use Rattle.claim_model.specs.Bytes.{bytes_with}
use Rattle.world_setup.specs.Seen.{settings_seen}
use Rattle.node_log.specs.LogSeen.{logs_seen}
use Rattle.run_merge.proofs.Merging.{FitBefore}
use Rattle.run_merge.proofs.history.all_fit.Given as goal
use Rattle.world_setup.specs.Taken.{routes_in}

abbrev pub invariant-loop-log : goal.invariant-loop-log
invariant-loop-log l = FitBefore l.log-index (bytes_with (routes_in l.settings)) (settings_seen l.settings) (logs_seen l.logs)
