use Rattle.std.proofs.Common.{take, ◌∙◌, ap, ℕ, refl, arith}
use Rattle.node_process.specs.Acts.{heard}
use Rattle.node_process.specs.Safe.{owner_seen}
use Rattle.node_process.proofs.Moments.{serves_runs}
use Rattle.node_process.proofs.Turning.{turn_runs, turn_deaf, turn_on, turn_ends, turn_breaks, turn_stops, turn_counts, stops_as}
use Rattle.node_process.proofs.serving.serve.Goals as goal

pub returns-in_err-count-clause-each : goal.returns-in_err-count-clause-each
returns-in_err-count-clause-each g c = rw c.in_err-count.ensures.failed (turn_deaf (owner_seen c.args.owner.now) (g.M.Machine.acts c.loop.machine) c.loop.service c.loop.pending.items c.loop.invariant.0.0)

pub returns-then-count-eq0-clause-each : goal.returns-then-count-eq0-clause-each
returns-then-count-eq0-clause-each g c = rw c.in_ok-count.ensures.heard (turn_runs (owner_seen c.args.owner.now) (g.M.Machine.acts c.loop.machine) c.loop.service c.loop.pending.items (take c.in_ok-count.count c.hear.new.buffer) c.loop.invariant.0.0)

pub returns-in_err-serve_heard-clause-each : goal.returns-in_err-serve_heard-clause-each
returns-in_err-serve_heard-clause-each g c = rw c.in_ok-count.ensures.heard (turn_runs (owner_seen c.args.owner.now) (g.M.Machine.acts c.loop.machine) c.loop.service c.loop.pending.items (take c.in_ok-count.count c.hear.new.buffer) c.loop.invariant.0.0)

pub loop-preserved : goal.loop-preserved
loop-preserved g c =
    let hears = c.in_ok-say.ensures.heard ∙ (c.in_ok-keep_records.ensures.heard ∙ ap heard c.in_ok-count.ensures.heard) in (
      (
        turn_on (owner_seen c.args.owner.now) (g.M.Machine.acts c.loop.machine) (g.M.Machine.acts c.say.new.machine) c.loop.service c.say.new.service c.loop.pending.items (take c.in_ok-count.count c.hear.new.buffer) c.serve_heard.new.pending.items c.loop.invariant.0.0 c.in_ok-say.ensures.served hears
            c.in_ok-serve_heard.ensures.kept c.in_ok-serve_heard.ensures.begun c.in_ok-say.ensures.quiet.0 c.in_ok-say.ensures.quiet.1,
        (let same = c.hear.auto.buffer in let room = c.loop.invariant.0.1 in omega (arith, same, room)),
      ),
      turn_counts (g.M.Machine.acts c.loop.machine) (take c.in_ok-count.count c.hear.new.buffer) c.hear.new.buffer c.in_ok-count.count c.loop.counter (g.M.Machine.acts c.say.new.machine) c.loop.invariant.1 refl (let same = c.hear.auto.buffer in let bound = c.in_ok-count.ensures.bound in omega (arith, same, bound)) c.if-count-eq0.false hears,
    )

pub returns-clause-each : goal.returns-clause-each
returns-clause-each g c = serves_runs (owner_seen c.args.owner.now) (g.M.Machine.acts c.loop.machine) c.loop.service c.loop.invariant.0.0.serves

pub returns-then-count-eq0-clause-done : goal.returns-then-count-eq0-clause-done
returns-then-count-eq0-clause-done g c =
    rw c.in_ok-count.ensures.heard (turn_ends (owner_seen c.args.owner.now) (g.M.Machine.acts c.loop.machine) c.loop.service c.loop.pending.items (take c.in_ok-count.count c.hear.new.buffer) (ap (λ (count : ℕ). take count c.hear.new.buffer) c.if-count-eq0.true) c.loop.invariant.0.0)

pub returns-in_err-count-clause-why : goal.returns-in_err-count-clause-why
returns-in_err-count-clause-why g c =
    stops_as (owner_seen c.args.owner.now) (g.M.Machine.acts c.hear.new.self) c.loop.service _ c.from_residual.result c.from_residual.ensures.1
    (rw c.in_err-count.ensures.failed (turn_breaks (owner_seen c.args.owner.now) (g.M.Machine.acts c.loop.machine) c.loop.service c.loop.pending.items c.loop.invariant.0.0))

pub returns-in_err-serve_heard-clause-why : goal.returns-in_err-serve_heard-clause-why
returns-in_err-serve_heard-clause-why g c =
    stops_as (owner_seen c.args.owner.now) (g.M.Machine.acts c.hear.new.self) c.serve_heard.new.service _ c.from_residual-in_err-serve_heard.result c.from_residual-in_err-serve_heard.ensures.1
    (rw c.in_ok-count.ensures.heard
    (turn_stops (owner_seen c.args.owner.now) (g.M.Machine.acts c.loop.machine) c.loop.service c.serve_heard.new.service c.loop.pending.items (take c.in_ok-count.count c.hear.new.buffer) c.in_err-serve_heard.field-0.0 c.loop.invariant.0.0 c.in_err-serve_heard.ensures.why))
