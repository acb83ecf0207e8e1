use Rattle.std.proofs.Common.{◌∙◌}
use Rattle.indexmap.proofs.CallerLemmas.{insert_entry-new}
use Rattle.claim_model.specs.Readable.{same_id}
use Rattle.switch_node.proofs.table.put.Goals as goal

pub returns-clause-put : goal.returns-clause-put
returns-clause-put c = c.in_ok-insert.ensures.entries ∙ insert_entry-new same_id c.args.ring.now c.args.id c.args.slot c.requires
