use Rattle.node_threads.proofs.Conserving.{adds, learns}
use Rattle.node_threads.proofs.inbox.pass.Pass.put.Goals as goal

pub try_send_as-requires-clause-rule : goal.try_send_as-requires-clause-rule
try_send_as-requires-clause-rule g c = (adds _ _ _ _, learns _ _)
