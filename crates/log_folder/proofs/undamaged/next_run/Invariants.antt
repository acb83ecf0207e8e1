use Rattle.kept_logs.specs.Digests.{version_seen}
use Rattle.log_folder.specs.Undamaged.{NoneBetween}
use Rattle.log_folder.proofs.undamaged.next_run.Given as goal

abbrev pub invariant-loop-at : goal.invariant-loop-at
invariant-loop-at l = NoneBetween (version_seen l.version) l.bytes l.wanted l.behind l.at
