use Rattle.std.proofs.Common.{◌++◌, ◌+◌, refl, ◌∙◌}
use Rattle.world_report.specs.Words.{lines_text}
use Rattle.node_logged.specs.LedgerSeen.{tills_seen}
use Rattle.schedule_run.proofs.Turns.{turn_told, written_more}
use Rattle.schedule_run.proofs.CutOff.{on_fault, stopped_writing}
use Rattle.schedule_run.proofs.commands.make_commands.Goals as goal

pub loop-command-preserved : goal.loop-command-preserved
loop-command-preserved g c =
    let so_far = c.loop-command.invariant.0 in
    let told = c.in_ok-make_command.ensures in
    let text = rw (c.as_slice.ensures.value, told.1, c.new-told.ensures.items) at c.in_ok-write_output.ensures.all in (
      (
        so_far.0 ++ told.0,
        written_more _ _ _ so_far.0 told.0 so_far.1 text,
        turn_told c.args.commands.now c.loop-command.command-index c.command-item.result (tills_seen c.args.tills.now) (tills_seen c.loop-command.tills) (tills_seen c.make_command.new.tills) so_far.0 told.0 c.loop-command-test.true c.command-item.is
            so_far.2 told.2,
      ),
      c.in_ok-write_output.ensures.same_reference ∙ c.loop-command.invariant.1,
    )

pub returns-in_err-write_output-clause-cut_off : goal.returns-in_err-write_output-clause-cut_off
returns-in_err-write_output-clause-cut_off g c =
    let so_far = c.loop-command.invariant.0 in
    let told = c.in_ok-make_command.ensures in
    on_fault c.from_residual-in_err-write_output.result
    (stopped_writing (g.K.Sink.contents c.args.sink.now) (g.K.Sink.contents c.loop-command.sink) (g.K.Sink.contents c.write_output.new.sink) c.args.commands.now (c.loop-command.command-index + 1) (tills_seen c.args.tills.now) (tills_seen c.make_command.new.tills) so_far.0 told.0 (lines_text told.0) so_far.1 refl
    (turn_told c.args.commands.now c.loop-command.command-index c.command-item.result (tills_seen c.args.tills.now) (tills_seen c.loop-command.tills) (tills_seen c.make_command.new.tills) so_far.0 told.0 c.loop-command-test.true c.command-item.is
    so_far.2 told.2)
    (rw (c.as_slice.ensures.value, told.1, c.new-told.ensures.items) at c.in_err-write_output.ensures.front))
