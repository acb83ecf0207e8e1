use Rattle.node_threads.proofs.Conserving.{forks}
use Rattle.node_threads.proofs.inbox.pass.Pass.another.Goals as goal

pub another-seat-requires-clause-rule : goal.another-seat-requires-clause-rule
another-seat-requires-clause-rule c = forks _ _
