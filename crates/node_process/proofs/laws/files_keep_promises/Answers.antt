-- One thing after another, each at its node.
use Rattle.node_process.proofs.Joining.{keep_promises}
use Rattle.node_process.proofs.laws.files_keep_promises.Goals as goal

pub returns-clause-promises : goal.returns-clause-promises
returns-clause-promises c = keep_promises
