use Rattle.std.proofs.Common.{◌≡◌, ◌+◌, drop, map}
use Rattle.world_setup.specs.Seen.{sent_seen}
use Rattle.log_audit.specs.Wrongs.{wrong_from}
use Rattle.log_audit.proofs.judging.wrongs.wrong_among.Given as goal

-- the first that is wrong of the packets that are left, is that of all
abbrev pub invariant-loop-passed : goal.invariant-loop-passed
invariant-loop-passed l = wrong_from (l.passed + 1) (map sent_seen (drop l.passed l.made)) (map sent_seen (drop l.passed l.kept)) ≡ wrong_from 1 (map sent_seen l.made) (map sent_seen l.kept)
