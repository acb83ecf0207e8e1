use Rattle.node_threads.proofs.Conserving.{removes, learns}
use Rattle.node_threads.proofs.inbox.pass.Pass.take.Goals as goal

pub recv_as-requires-clause-rule : goal.recv_as-requires-clause-rule
recv_as-requires-clause-rule g c = (removes _ _, learns _ _)
