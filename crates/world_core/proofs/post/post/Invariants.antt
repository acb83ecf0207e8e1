use Rattle.std.proofs.Common.{◌≡◌, ◌≤◌, ◌+◌, length, map, vec_len, vec_capacity}
use Rattle.std.specs.Vec.Iter.{into_iter_items}
use Rattle.claim_model.specs.World.{posted}
use Rattle.world_setup.specs.Seen.{node_seen, sent_seen, packet_seen}
use Rattle.world_core.proofs.post.post.Given as goal

abbrev pub invariant-loop-each : goal.invariant-loop-each
invariant-loop-each l = record {
  room : vec_len l.packets + length (into_iter_items l.each-iterator) ≤ vec_capacity l.packets;
  posted_yet : posted (map packet_seen l.packets.items) (node_seen l.from) (map sent_seen (into_iter_items l.each-iterator)) ≡ posted (map packet_seen l.initial.packets.items) (node_seen l.from) (map sent_seen l.fn.sent.items);
}
