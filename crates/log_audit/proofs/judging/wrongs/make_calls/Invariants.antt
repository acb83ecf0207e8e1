use Rattle.std.proofs.Common.{◌≡◌, ◌+◌, drop}
use Rattle.claim_model.specs.Bytes.{bytes_with}
use Rattle.log_audit.specs.Wrongs.{calls_made}
use Rattle.log_audit.proofs.judging.wrongs.make_calls.Given as goal

-- what the calls that are left come to, all come to
abbrev pub invariant-loop-passed : goal.invariant-loop-passed
invariant-loop-passed l = calls_made (bytes_with l.routes) l.node (l.passed + 1) (drop l.passed l.records) ≡ calls_made (bytes_with l.routes) l.initial.node 1 l.records
