use Rattle.std.proofs.Common.{◌≡◌, drop}
use Rattle.log_audit.specs.Given.{given_of, turned_given}
use Rattle.log_audit.specs.Names.{first_log, misnamed_given, misnamed_log}
use Rattle.log_audit.proofs.reading.referring.misnamed_among.Given as goal

-- the first of what is left is that of all
abbrev pub invariant-loop-place : goal.invariant-loop-place
invariant-loop-place l = first_log (misnamed_given (turned_given l.digests)) l.place (given_of (drop l.place l.logs)) ≡ misnamed_log (turned_given l.digests) (given_of l.logs)
