-- A part may go to another thread, as the node may.
use denote.Param.Send.{IsSend}
use Rattle.node_handle.proofs.PartValues.{keyless}
use Rattle.node_handle.specs.contracts.hosted.Hosted.{the_row as service_row}
use Rattle.node_handle.proofs.hosted.Hosted.TheSendSync as service
use Rattle.node_handle.specs.contracts.part.Part.{the_row}

pub send : IsSend the_row
send = record { owned = λ n vs. ((λ vss. (tt, (tt, tt))), keyless service_row service.the_send n.at n.node); leaving = λ k d w. tt }
