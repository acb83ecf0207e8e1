use Rattle.claim_model.specs.Bytes.{bytes_with}
use Rattle.kept_logs.specs.Digests.{version_seen}
use Rattle.kept_logs.proofs.MadeSoFar.{MadeSoFar}
use Rattle.kept_logs.proofs.making.make_calls.Given as goal

-- the calls that were read were made, and with those that are left they are all
abbrev pub invariant-loop-place : goal.invariant-loop-place
invariant-loop-place l = MadeSoFar (bytes_with l.routes) l.fn.opening (version_seen l.fn.version) l.fn.total l.bytes l.node l.references.items l.place l.rest
