use Rattle.node_process.specs.Safe.{owner_seen}
use Rattle.node_process.proofs.Moments.{reads_runs}
use Rattle.node_process.proofs.opening.lay_down.Goals as goal

pub returns-in_err-ready-clause-each : goal.returns-in_err-ready-clause-each
returns-in_err-ready-clause-each g c = reads_runs (owner_seen c.args.owner.now) (g.M.Machine.acts c.args.machine.now) c.args.whole c.args.size c.args.service.now c.requires
