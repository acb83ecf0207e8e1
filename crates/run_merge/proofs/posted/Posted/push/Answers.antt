use Rattle.std.proofs.Common.{◌≡◌, ◌+◌, List, length, map, arith}
use Rattle.std.proofs.lemmas.List.{length-map}
use Rattle.std.specs.HashMap.{get}
use Rattle.claim_model.specs.World.{Packet}
use Rattle.run_merge.specs.LineSeen.{slip_seen}
use Rattle.run_merge.specs.PacketNumbers.{same_slip}
use Rattle.run_merge.proofs.Numbering.{indexed_more}
use Rattle.run_merge.proofs.Places.{map_more}
use Rattle.run_merge.proofs.posted.Posted.push.Goals as goal

pub invariant_of-self-in-Ok : goal.invariant_of-self-in-Ok
invariant_of-self-in-Ok c =
    let packets : List Packet = map slip_seen c.self.inside.packets.items in
    let n : c.len.result + 1 ≡ length packets + 1 = omega (arith, c.in_ok-reserve.ensures.len, c.self.inside.packets.ok.0, length-map c.self.inside.packets.items slip_seen) in
    rw (c.push_reserved.ensures.items, c.in_ok-reserve.ensures.items, map_more slip_seen c.self.inside.packets.items c.args.slip)
    (indexed_more packets c.args.slip (c.len.result + 1) (get same_slip c.self.inside.numbers) (get same_slip c.insert.new.self) c.self.invariant n c.in-Ok.ensures.updates.0)
