use Rattle.std.proofs.Common.{◌≡◌, map, take}
use Rattle.world_setup.specs.Seen.{packet_seen}
use Rattle.run_merge.specs.LineSeen.{slip_seen}
use Rattle.run_merge.proofs.posted.packets_of.Given as goal

abbrev pub invariant-loop-slip : goal.invariant-loop-slip
invariant-loop-slip l = map packet_seen l.packets.items ≡ map slip_seen (take l.slip-index l.slips)
