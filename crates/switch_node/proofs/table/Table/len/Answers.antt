use Rattle.std.proofs.Common.{sym, ap, subst, ◌∙◌, length}
use Rattle.std.specs.List.{IsDistinct}
use Rattle.std.specs.Map.{keys_of}
use Rattle.claim_model.specs.Readable.{same_id}
use Rattle.claim_model.specs.Table.{Table}
use Rattle.switch_node.proofs.Ids.{same_id_laws}
use Rattle.switch_node.proofs.Turning.{length-turned, distinct-turned}
use Rattle.switch_node.proofs.table.Table.len.Goals as goal

pub returns-clause-len : goal.returns-clause-len
returns-clause-len c = c.len.ensures.len ∙ sym (length-turned c.self.inside.head c.self.inside.map.entries) ∙ ap (λ (t : Table). length t.entries) c.self.view_is

pub returns-clause-distinct : goal.returns-clause-distinct
returns-clause-distinct c =
    subst (λ (t : Table). IsDistinct same_id (keys_of t.entries)) c.self.view_is (distinct-turned same_id_laws c.self.inside.head c.self.inside.map.entries c.self.invariant.distinct)
