use Rattle.std.proofs.Common.{◌≡◌, ◌++◌, map, take}
use Rattle.claim_model.specs.World.{packet_from}
use Rattle.world_setup.specs.Seen.{node_seen, sent_seen}
use Rattle.run_merge.proofs.posted.Posted.post.Given as goal

abbrev pub invariant-loop-one : goal.invariant-loop-one
invariant-loop-one l = l.self ≡ l.initial.self ++ map (packet_from (node_seen l.from)) (map sent_seen (take l.one-index l.sent))
