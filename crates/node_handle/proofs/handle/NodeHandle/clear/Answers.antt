use Rattle.std.proofs.Common.{rules}
use Rattle.node_handle.proofs.handle.NodeHandle.clear.Goals as goal

pub returns : goal.returns
returns c = rw c.take-node.ensures.node (c.clear-cleared.new.self, (search rules, rw c.deref_mut.ensures.value at c.clear-cleared.ensures))
