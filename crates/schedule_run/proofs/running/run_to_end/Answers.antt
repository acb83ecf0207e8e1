use Rattle.std.proofs.Common.{refl}
use Rattle.node_logged.specs.LedgerSeen.{tills_seen}
use Rattle.schedule.specs.Runs.{run_seen}
use Rattle.schedule_run.proofs.CutOff.{on_fault, stopped_behind}
use Rattle.schedule_run.proofs.running.run_to_end.Goals as goal

pub returns-clause-ended : goal.returns-clause-ended
returns-clause-ended g c =
    let told = c.in_ok-made.ensures.told in (
      told.0,
      told.1,
      record {
        tills = tills_seen c.serve-made.new.tills.items;
        commands = told.2;
        end = c.in_ok-finished.field-0;
        judged = rw c.as_slice.ensures.value at c.in_ok-finished.ensures.ok;
        world_is = refl;
      },
    )

pub returns-in_err-finished-clause-cut_off : goal.returns-in_err-finished-clause-cut_off
returns-in_err-finished-clause-cut_off g c =
    let told = c.in_ok-made.ensures.told in
    on_fault c.from_residual-in_err-finished.result
    (stopped_behind (g.K.Sink.contents c.args.sink.now) (g.K.Sink.contents c.serve-made.new.sink) (run_seen c.args.run.now) (record { lines = told.0; written = told.1; after = tills_seen c.serve-made.new.tills.items; told = told.2 }))
