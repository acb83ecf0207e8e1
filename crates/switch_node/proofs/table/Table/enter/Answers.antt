use Rattle.std.proofs.Common.{◌≡◌, ◌<◌, length, sym, ap, ◌∙◌, arith}
use Rattle.claim_model.specs.Readable.{same_id}
use Rattle.claim_model.specs.Table.{Table, slot_of, entered}
use Rattle.switch_node.specs.Ring.{turned, next}
use Rattle.switch_node.proofs.Ids.{same_id_laws}
use Rattle.switch_node.proofs.Turning.{lookup-turned}
use Rattle.switch_node.proofs.Rings.{entered-full, entered-room}
use Rattle.switch_node.proofs.table.Table.enter.Goals as goal

pub put-requires : goal.put-requires
put-requires c =
    sym (lookup-turned same_id_laws (same_id c.args.id) (same_id_laws.congr c.args.id) c.self.inside.head c.self.inside.map.entries c.self.invariant.distinct)
    ∙ ap (λ (t : Table). slot_of c.args.id t.entries) c.self.view_is ∙ c.requires

pub returns-then-full-clause-entered : goal.returns-then-full-clause-entered
returns-then-full-clause-entered c =
    let cap = c.cap-cap.ensures.value in
    let full : length c.self.inside.map.entries ≡ c.self.inside.settings = sym c.len.ensures.len ∙ c.if-full.true ∙ cap in
    let after : c.next-self-inside.result ≡ next c.self.inside.head c.self.inside.settings = c.next-self-inside.ensures ∙ ap (next c.self.inside.head) cap in
    (λ j. record { cap = c.self.inside.settings; entries = turned (after j) c.replace.new.ring.entries })
    ∙ entered-full c.self.inside.settings c.self.inside.head c.self.inside.map.entries c.replace.new.ring.entries c.args.id c.args.slot full c.self.invariant.within
    (c.replace.ensures.entries c.self.inside.map.entries (c.args.id, c.args.slot) c.in_ok-put.ensures.put)
    ∙ ap (λ (t : Table). entered t c.args.id c.args.slot) c.self.view_is

pub returns-else-full-clause-entered : goal.returns-else-full-clause-entered
returns-else-full-clause-entered c =
    let room : length c.self.inside.map.entries < c.self.inside.settings = omega (arith, c.self.invariant.few, c.if-full.false, c.cap-cap.ensures.value, c.len.ensures.len) in
    entered-room c.self.inside.settings c.self.inside.head c.self.inside.map.entries c.put.new.ring.entries c.args.id c.args.slot room (c.self.invariant.straight room) c.in_ok-put.ensures.put
    ∙ ap (λ (t : Table). entered t c.args.id c.args.slot) c.self.view_is
