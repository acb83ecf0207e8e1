use Rattle.switch_node.proofs.Rings.{replaced}
use Rattle.switch_node.proofs.table.replace.Goals as goal

pub returns-clause-entries : goal.returns-clause-entries
returns-clause-entries c = replaced c.args.ring.now.entries c.swap_remove_index.new.self.entries c.args.head c.swap_remove_index.result c.swap_remove_index.ensures.entry c.swap_remove_index.ensures.entries c.requires
