use Rattle.std.proofs.Common.{◌≡◌, ◌++◌, ◌+◌, drop}
use Rattle.claim_model.specs.Settings.{opening}
use Rattle.world_setup.specs.Seen.{settings_seen}
use Rattle.node_log.specs.LogSeen.{logs_seen}
use Rattle.node_logged.specs.Setting.{context_of}
use Rattle.node_logged.specs.Replayed.{ledgers_from, ledgers_of}
use Rattle.node_logged.proofs.judging.replaying.ledgers.Given as goal

abbrev pub invariant-loop-place : goal.invariant-loop-place
invariant-loop-place l =
    l.ledgers.items ++ ledgers_from (context_of l.settings) (logs_seen l.logs) (l.place + 1) (drop l.place (opening (settings_seen l.settings)).pharmacies) ≡ ledgers_of l.settings (logs_seen l.logs)
