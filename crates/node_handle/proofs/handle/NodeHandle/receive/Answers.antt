use Rattle.std.proofs.Common.{rules}
use Rattle.node_handle.proofs.Lines.{takes_named}
use Rattle.node_handle.proofs.handle.NodeHandle.receive.Goals as goal

pub returns-in-Err : goal.returns-in-Err
returns-in-Err c = takes_named _ _ _ _ _ (search rules) (c.give_up.ensures _)
