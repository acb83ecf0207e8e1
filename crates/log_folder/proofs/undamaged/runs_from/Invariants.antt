use Rattle.std.proofs.Common.{◌-◌, length}
use Rattle.kept_logs.specs.Digests.{version_seen}
use Rattle.log_folder.proofs.Standing.{RunsSoFar}
use Rattle.log_folder.proofs.undamaged.runs_from.Given as goal

abbrev pub invariant-loop-run : goal.invariant-loop-run
invariant-loop-run l = RunsSoFar (version_seen l.version) l.bytes l.number l.place l.wanted l.behind l.runs.items

abbrev pub decreases-loop-run : goal.decreases-loop-run
decreases-loop-run l = length l.bytes - l.behind
