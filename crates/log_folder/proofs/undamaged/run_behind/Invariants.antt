use Rattle.kept_logs.specs.Digests.{version_seen}
use Rattle.log_folder.proofs.Standing.{Passed}
use Rattle.log_folder.proofs.undamaged.run_behind.Given as goal

abbrev pub invariant-loop-number : goal.invariant-loop-number
invariant-loop-number l = Passed (version_seen l.version) l.bytes l.first l.from l.number l.left
