use Rattle.std.proofs.Common.{is_ok, ◌∷◌}
use Rattle.node_process.specs.Acts.{Cut}
use Rattle.node_process.specs.Ends.{Breaks}
use Rattle.node_process.specs.Safe.{owner_seen}
use Rattle.node_process.proofs.Moments.{reads_runs, cut_runs, when_failed}
use Rattle.node_process.proofs.Remembering.{cut_breaks}
use Rattle.node_process.proofs.opening.trim.Goals as goal

pub returns-then-whole-size-clause-each : goal.returns-then-whole-size-clause-each
returns-then-whole-size-clause-each g c = reads_runs (owner_seen c.args.owner.now) (g.M.Machine.acts c.args.machine.now) c.args.whole c.args.size c.args.service.now c.requires

pub returns-clause-each : goal.returns-clause-each
returns-clause-each g c = rw c.cut.ensures (cut_runs (owner_seen c.args.owner.now) (g.M.Machine.acts c.args.machine.now) c.args.whole c.args.size c.args.service.now (is_ok c.cut.result) c.requires)

pub returns-clause-broken : goal.returns-clause-broken
returns-clause-broken g c =
    rw c.cut.ensures
    (when_failed c.cut.result (λ done. Breaks (owner_seen c.args.owner.now) (Cut c.args.whole done ∷ g.M.Machine.acts c.args.machine.now) c.args.service.now)
    (cut_breaks (owner_seen c.args.owner.now) (g.M.Machine.acts c.args.machine.now) c.args.whole c.args.size c.args.service.now c.requires))
