use Rattle.std.proofs.Common.{◌++◌, refl}
use Rattle.world_report.specs.Words.{lines_text}
use Rattle.schedule_run.specs.Output.{node_lines}
use Rattle.schedule_run.proofs.Turns.{written_more}
use Rattle.schedule.specs.Runs.{run_seen}
use Rattle.schedule_run.proofs.CutOff.{on_fault, stopped_in_nodes}
use Rattle.schedule_run.proofs.running.run_asked.Goals as goal

pub returns-clause-output : goal.returns-clause-output
returns-clause-output g c =
    let ended = c.in_ok-world.ensures.ended in
    let nodes = node_lines c.in_ok-world.world in (
      lines_text (ended.0 ++ nodes),
      record {
        told = ended.0;
        world = c.in_ok-world.world;
        ends = rw c.in_ok-system.ensures at ended.2;
        whole = refl;
      },
      written_more _ _ _ ended.0 nodes ended.1 c.in_ok-write_nodes.ensures.all,
    )

pub returns-in_err-write_nodes-clause-stopped : goal.returns-in_err-write_nodes-clause-stopped
returns-in_err-write_nodes-clause-stopped g c =
    let ended = c.in_ok-world.ensures.ended in
    on_fault c.from_residual-in_err-write_nodes.result
    (stopped_in_nodes _ _ _ c.args.asked.settings (run_seen c.args.asked.run) ended.0 c.in_ok-world.world (rw c.in_ok-system.ensures at ended.2) ended.1 c.in_err-write_nodes.ensures.front)
