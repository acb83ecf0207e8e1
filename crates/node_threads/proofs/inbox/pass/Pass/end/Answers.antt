use Rattle.node_threads.proofs.Conserving.{adds, learns}
use Rattle.node_threads.proofs.inbox.pass.Pass.end.Goals as goal

pub send_as-requires-clause-rule : goal.send_as-requires-clause-rule
send_as-requires-clause-rule g c = (adds _ _ _ _, learns _ _)
