use Rattle.std.proofs.Common.{◌≡◌, Some, None, sym, ap, ◌∙◌}
use Rattle.std.specs.Map.{set_value, lookup}
use Rattle.claim_model.specs.Readable.{same_id}
use Rattle.claim_model.specs.Table.{Slot}
use Rattle.switch_node.proofs.Ids.{same_id_laws}
use Rattle.switch_node.proofs.Filling.{changed-found, changed-none}
use Rattle.switch_node.proofs.table.write.Goals as goal

pub returns-in-Some : goal.returns-in-Some
returns-in-Some c =
    let found : lookup (same_id c.args.id) c.args.ring.now.entries ≡ Some c.in-Some.slot.now = sym c.in-Some.ensures.value in
    (c.get_mut.follows.holds c.settle.new.self).0
    ∙ ap (set_value (same_id c.args.id) c.args.ring.now.entries) c.settle.ensures
    ∙ changed-found (same_id c.args.id) (λ (s : Slot). record { request = s.request; answer = Some c.args.answer }) (same_id_laws.congr c.args.id) c.args.ring.now.entries c.in-Some.slot.now c.get_mut.ensures.unique found

pub returns-in_default : goal.returns-in_default
returns-in_default c =
    let none : lookup (same_id c.args.id) c.args.ring.now.entries ≡ None = sym c.in_default.ensures.value in
    ap (λ m. m.entries) c.get_mut.follows.holds-at-none
    ∙ sym (changed-none (same_id c.args.id) (λ (s : Slot). record { request = s.request; answer = Some c.args.answer }) c.args.ring.now.entries none)
