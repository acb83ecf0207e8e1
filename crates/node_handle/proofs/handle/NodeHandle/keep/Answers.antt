use Rattle.std.proofs.Common.{rules}
use Rattle.node_handle.proofs.handle.NodeHandle.keep.Goals as goal

pub returns : goal.returns
returns c = rw c.take-node.ensures.node (c.keep-kept.new.self, (search rules, rw c.deref_mut.ensures.value at c.keep-kept.ensures))
