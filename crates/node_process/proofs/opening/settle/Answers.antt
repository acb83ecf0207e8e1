use Rattle.std.proofs.Common.{is_ok, ◌∷◌}
use Rattle.node_process.specs.Acts.{Sync}
use Rattle.node_process.specs.Safe.{owner_seen, Begins}
use Rattle.node_process.proofs.Moments.{settle_runs, settle_begins, when_done}
use Rattle.node_process.proofs.opening.settle.Goals as goal

pub returns-clause-each : goal.returns-clause-each
returns-clause-each g c = rw c.sync.ensures (settle_runs (owner_seen c.args.owner.now) (g.M.Machine.acts c.args.machine.now) c.args.whole c.args.service.now (is_ok c.sync.result) c.requires)

pub returns-clause-begun : goal.returns-clause-begun
returns-clause-begun g c =
    rw c.sync.ensures
    (when_done c.sync.result (λ done. Begins (owner_seen c.args.owner.now) (Sync done ∷ g.M.Machine.acts c.args.machine.now) c.args.whole c.args.service.now)
    (settle_begins (owner_seen c.args.owner.now) (g.M.Machine.acts c.args.machine.now) c.args.whole c.args.service.now c.requires))
