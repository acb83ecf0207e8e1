use Rattle.std.proofs.Common.{is_ok, ◌∷◌}
use Rattle.node_service.specs.Serving.{cleared}
use Rattle.node_process.specs.Acts.{Say}
use Rattle.node_process.specs.Ends.{Breaks}
use Rattle.node_process.specs.Safe.{owner_seen, closed_calls, greeting, Serves}
use Rattle.node_process.proofs.Moments.{greet_runs, greet_all, when_done, when_failed}
use Rattle.node_process.proofs.Remembering.{greet_breaks}
use Rattle.node_process.proofs.opening.greet.Goals as goal

pub returns-clause-each : goal.returns-clause-each
returns-clause-each g c = rw (c.say.ensures, c.requires.ready) (greet_runs (owner_seen c.args.owner.now) (g.M.Machine.acts c.args.machine.now) c.args.whole c.args.service.now (is_ok c.say.result) c.requires.begun)

pub returns-clause-served : goal.returns-clause-served
returns-clause-served g c =
    rw (c.say.ensures, c.requires.ready)
    (when_done c.say.result (λ done. Serves (owner_seen c.args.owner.now) (Say (greeting (closed_calls (owner_seen c.args.owner.now)) c.args.service.now.calls) done ∷ g.M.Machine.acts c.args.machine.now) (cleared c.args.service.now)) (greet_all (owner_seen c.args.owner.now) (g.M.Machine.acts c.args.machine.now) c.args.whole c.args.service.now c.requires.begun))

pub returns-clause-broken : goal.returns-clause-broken
returns-clause-broken g c =
    rw (c.say.ensures, c.requires.ready)
    (when_failed c.say.result (λ done. Breaks (owner_seen c.args.owner.now) (Say (greeting (closed_calls (owner_seen c.args.owner.now)) c.args.service.now.calls) done ∷ g.M.Machine.acts c.args.machine.now) c.args.service.now)
    (greet_breaks (owner_seen c.args.owner.now) (g.M.Machine.acts c.args.machine.now) c.args.whole c.args.service.now c.requires.begun))
