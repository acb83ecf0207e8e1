use Rattle.std.proofs.Common.{◌≡◌, List, Some, map, sym, ap, ◌∙◌, subst}
use Rattle.std.specs.HashMap.{get}
use Rattle.claim_model.specs.Numbered.{numbered}
use Rattle.claim_model.specs.World.{Packet}
use Rattle.run_merge.specs.Line.{IsAbsent}
use Rattle.run_merge.specs.LineSeen.{slip_seen}
use Rattle.run_merge.specs.PacketNumbers.{same_slip}
use Rattle.run_merge.proofs.Numbering.{number_found, number_missing}
use Rattle.run_merge.proofs.posted.Posted.find.Goals as goal

pub returns-in-Some : goal.returns-in-Some
returns-in-Some c =
    let at = number_found (map slip_seen c.self.inside.packets.items) (get same_slip c.self.inside.numbers) c.new.result c.in-Some.number.now c.self.invariant (sym c.in-Some.ensures.value) in
    subst (λ (ps : List Packet). numbered ps c.in-Some.number.now ≡ Some (slip_seen c.new.result)) c.self.view_is at ∙ ap (λ (p : Packet). Some p) c.new.ensures

pub returns-in-None : goal.returns-in-None
returns-in-None c =
    let absent = number_missing (map slip_seen c.self.inside.packets.items) (get same_slip c.self.inside.numbers) c.new.result c.self.invariant (sym c.in-None.ensures.value) in
    subst (λ (p : Packet). IsAbsent c.args.self.now p) c.new.ensures (subst (λ (ps : List Packet). IsAbsent ps (slip_seen c.new.result)) c.self.view_is absent)
