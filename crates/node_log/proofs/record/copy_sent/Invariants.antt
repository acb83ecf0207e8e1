use Rattle.std.proofs.Common.{◌≡◌, map, take}
use Rattle.world_setup.specs.Seen.{sent_seen}
use Rattle.node_log.proofs.record.copy_sent.Given as goal

abbrev pub invariant-loop-one : goal.invariant-loop-one
invariant-loop-one l = map sent_seen l.copy.items ≡ map sent_seen (take l.one-index l.sent)
