use Rattle.std.proofs.Common.{rules}
use Rattle.node_handle.proofs.Lines.{adjudicates_named}
use Rattle.node_handle.proofs.handle.NodeHandle.adjudicate.Goals as goal

pub returns-in-Err : goal.returns-in-Err
returns-in-Err c = adjudicates_named _ _ _ _ _ _ (search rules) (c.give_up.ensures _)
