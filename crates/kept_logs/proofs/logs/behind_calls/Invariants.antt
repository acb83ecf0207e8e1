use Rattle.kept_logs.specs.Digests.{version_seen}
use Rattle.kept_logs.proofs.Passing.{Stands}
use Rattle.kept_logs.proofs.logs.behind_calls.Given as goal

-- what is left stands after the records that were passed
abbrev pub invariant-loop-place : goal.invariant-loop-place
invariant-loop-place l = Stands (version_seen l.fn.version) l.records l.fn.count l.place l.rest
