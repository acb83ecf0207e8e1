use Rattle.read_and_replay.proofs.RunLines.{run_is_told}
use Rattle.read_and_replay.proofs.replaying.report_on.Goals as goal

pub returns-in_ok-with_nodes-in-Ok-clause-all : goal.returns-in_ok-with_nodes-in-Ok-clause-all
returns-in_ok-with_nodes-in-Ok-clause-all c =
    run_is_told c.args.input.items c.in-Ok.run'.report.items c.in_ok-with_nodes-in-Ok.field-0.items c.in-Ok.run'.world c.in-Ok.ensures.run c.in_ok-with_nodes-in-Ok.ensures
