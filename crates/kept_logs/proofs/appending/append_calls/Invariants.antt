use Rattle.kept_logs.specs.Digests.{version_seen}
use Rattle.kept_logs.proofs.AppendedSoFar.{AppendedSoFar}
use Rattle.kept_logs.proofs.appending.append_calls.Given as goal

-- the records that were read were appended, and with those that are left they are all
abbrev pub invariant-loop-place : goal.invariant-loop-place
invariant-loop-place l = AppendedSoFar (version_seen l.fn.version) l.fn.before l.fn.total l.bytes l.fn.text.items l.text.items l.place l.rest
