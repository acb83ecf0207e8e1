use Rattle.std.proofs.Common.{length, replicate, ap, sym, ◌∙◌}
use Rattle.std.proofs.lemmas.Result.{on_err_weaker, on_ok_weaker}
use Rattle.world_report.specs.Words.{lines_text}
use Rattle.schedule.specs.Runs.{run_seen}
use Rattle.schedule_run.specs.Told.{done_line}
use Rattle.schedule_run.proofs.Endings.{run_told}
use Rattle.schedule_run.proofs.CutOff.{on_fault, stopped_in_commands, stopped_in_faults}
use Rattle.schedule_run.proofs.running.serve.Goals as goal

pub returns-clause-told : goal.returns-clause-told
returns-clause-told g c =
    let items = c.open_tills.new.tills.items in
    let text = c.as_slice-2.ensures.value ∙ (c.in_ok-told.ensures ∙ ap (λ fs. lines_text (replicate (length fs) done_line)) c.as_slice.ensures.value) in
    let made = rw (c.as_slice-3.ensures.value, c.as_mut_slice.ensures.value) at c.make_commands.ensures.told in
    on_ok_weaker c.make_commands.result
    (run_told _ _ _ (run_seen c.args.run.now) items c.make_commands.new.tills c.open_tills.new.tills.len c.as_slice-2.result.now c.in_ok-open_tills.ensures
    (sym c.as_mut_slice.ensures.len ∙ ap length c.as_mut_slice.ensures.value) text c.in_ok-write_output.ensures.all)
    made

pub returns-in_err-write_output-clause-cut_off : goal.returns-in_err-write_output-clause-cut_off
returns-in_err-write_output-clause-cut_off g c =
    let text = c.as_slice-2.ensures.value ∙ (c.in_ok-told.ensures ∙ ap (λ fs. lines_text (replicate (length fs) done_line)) c.as_slice.ensures.value) in
    on_fault c.from_residual-in_err-write_output.result
    (stopped_in_faults (g.K.Sink.contents c.args.sink.now) (g.K.Sink.contents c.write_output.new.sink) (run_seen c.args.run.now) c.as_slice-2.result.now text c.in_err-write_output.ensures.front)

pub returns-clause-cut_off : goal.returns-clause-cut_off
returns-clause-cut_off g c =
    let text = c.as_slice-2.ensures.value ∙ (c.in_ok-told.ensures ∙ ap (λ fs. lines_text (replicate (length fs) done_line)) c.as_slice.ensures.value) in
    let cut = rw (c.as_slice-3.ensures.value, c.as_mut_slice.ensures.value) at c.make_commands.ensures.cut_off in
    on_err_weaker c.make_commands.result
    (stopped_in_commands _ _ _ (run_seen c.args.run.now) _ c.as_slice-2.result.now c.in_ok-open_tills.ensures text c.in_ok-write_output.ensures.all)
    cut
