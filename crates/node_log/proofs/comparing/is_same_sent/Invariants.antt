use Rattle.std.proofs.Common.{◌≡◌, map, take}
use Rattle.world_setup.specs.Seen.{sent_seen}
use Rattle.node_log.proofs.comparing.is_same_sent.Given as goal

abbrev pub invariant-loop-place : goal.invariant-loop-place
invariant-loop-place l = map sent_seen (take l.place l.a) ≡ map sent_seen (take l.place l.b)
