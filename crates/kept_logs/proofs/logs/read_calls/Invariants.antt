use Rattle.world_setup.specs.Seen.{node_seen}
use Rattle.node_log.specs.LogSeen.{log_seen}
use Rattle.kept_logs.specs.Digests.{version_seen}
use Rattle.kept_logs.proofs.ReadSoFar.{ReadSoFar}
use Rattle.kept_logs.proofs.logs.read_calls.Given as goal

-- what was read and then what is left is all
abbrev pub invariant-loop-place : goal.invariant-loop-place
invariant-loop-place l = ReadSoFar (version_seen l.fn.version) l.fn.total l.bytes (node_seen l.fn.node) (log_seen l.log) l.place l.rest
