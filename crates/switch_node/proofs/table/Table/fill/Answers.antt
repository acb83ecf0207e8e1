use Rattle.std.proofs.Common.{ap, ◌∙◌}
use Rattle.claim_model.specs.Table.{Table, filled}
use Rattle.switch_node.proofs.Rings.{filled-turned, ring-filled}
use Rattle.switch_node.proofs.table.Table.fill.Goals as goal

pub invariant_of-self : goal.invariant_of-self
invariant_of-self c = ring-filled c.self.inside.settings c.self.inside.head c.self.inside.map.entries c.write.new.ring.entries c.args.id c.args.answer c.write.ensures c.self.invariant

pub returns : goal.returns
returns c =
    filled-turned c.self.inside.settings c.self.inside.head c.self.inside.map.entries c.write.new.ring.entries c.args.id c.args.answer c.write.ensures
    ∙ ap (λ (t : Table). filled t c.args.id c.args.answer) c.self.view_is
