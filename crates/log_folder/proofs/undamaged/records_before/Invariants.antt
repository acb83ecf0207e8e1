use Rattle.kept_logs.specs.Digests.{version_seen}
use Rattle.log_folder.proofs.Standing.{CountSoFar}
use Rattle.log_folder.proofs.undamaged.records_before.Given as goal

abbrev pub invariant-loop-passed : goal.invariant-loop-passed
invariant-loop-passed l = CountSoFar (version_seen l.version) l.bytes l.place l.passed l.left
