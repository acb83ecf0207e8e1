-- Under each text that the settings may have been opened from.
use Rattle.std.proofs.Common.{rules, inr}
use Rattle.node_handle.proofs.handle.NodeHandle.open_with.Goals as goal

pub returns-in-Ok : goal.returns-in-Ok
returns-in-Ok c text of = (c.in-Ok.node.value, (search rules, (c.put.ensures, c.in-Ok.ensures.opened text of)))

pub returns-in-Err : goal.returns-in-Err
returns-in-Err c text of = (search rules, inr (c.in-Err.ensures.refused text of))
