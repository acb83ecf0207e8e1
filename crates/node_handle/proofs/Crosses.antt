-- A handle may go to another thread.
use denote.Param.Send.{IsSend}
use Rattle.node_handle.specs.contracts.handle.NodeHandle.{the_row}
use Rattle.node_handle.proofs.handle.NodeHandle.TheSendSync as handle

pub crosses : IsSend the_row
crosses = handle.the_send
