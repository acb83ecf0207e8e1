use Rattle.std.proofs.Common.{sym, ap, ◌∙◌}
use Rattle.claim_model.specs.Readable.{same_id}
use Rattle.claim_model.specs.Table.{Table, slot_of}
use Rattle.switch_node.proofs.Ids.{same_id_laws}
use Rattle.switch_node.proofs.Turning.{lookup-turned}
use Rattle.switch_node.proofs.table.Table.get.Goals as goal

pub returns : goal.returns
returns c =
    c.get.ensures.value
    ∙ sym (lookup-turned same_id_laws (same_id c.args.id) (same_id_laws.congr c.args.id) c.self.inside.head c.self.inside.map.entries c.self.invariant.distinct)
    ∙ ap (λ (t : Table). slot_of c.args.id t.entries) c.self.view_is
