use Rattle.std.proofs.Common.{◌≡◌, drop}
use Rattle.claim_model.specs.Bytes.{bytes_with}
use Rattle.claim_model.specs.Logs.{replay}
use Rattle.node_log.proofs.replay.replay.Given as goal

abbrev pub invariant-loop-record : goal.invariant-loop-record
invariant-loop-record l = replay (bytes_with l.routes) l.node (drop l.record-index l.records) ≡ replay (bytes_with l.routes) l.initial.node l.records
