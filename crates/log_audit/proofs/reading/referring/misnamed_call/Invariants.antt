use Rattle.std.proofs.Common.{◌≡◌, ◌+◌, drop}
use Rattle.log_audit.specs.Names.{uses_from}
use Rattle.log_audit.specs.NamesSeen.{first_sorted}
use Rattle.log_audit.proofs.reading.referring.misnamed_call.Given as goal

-- the first of the calls that are left is that of all
abbrev pub invariant-loop-place : goal.invariant-loop-place
invariant-loop-place l = first_sorted l.known.keys (uses_from (l.place + 1) (drop l.place l.calls)) ≡ first_sorted l.initial.known.keys (uses_from 1 l.calls)
