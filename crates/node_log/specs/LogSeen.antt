-- Logs as the model sees them.
use Rattle.std.specs.Prelude.{map, List, [], ◌∷◌, ◌++◌}
use Rattle.world_setup.specs.Seen.{node_seen}
use Rattle.claim_model.specs.Logs.{Logged, NodeLog}
use Rattle.node_log.specs.declared.log.NodeLog.{NodeLog as Kept}

-- a node's log
abbrev pub log_seen : Kept → NodeLog
log_seen log = record { node = node_seen log.node; calls = log.calls.items }

-- logs
abbrev pub logs_seen : List Kept → List NodeLog
logs_seen logs = map log_seen logs

-- a log and one more call
abbrev pub with_call : NodeLog → Logged → NodeLog
with_call log r = record { node = log.node; calls = log.calls ++ r ∷ [] }
