use Rattle.node_log.specs.LogSeen.{logs_seen}
use Rattle.node_logged.specs.LedgerSeen.{tills_seen}
use Rattle.node_logged.proofs.Carrying.{run_right, run_agrees}
use Rattle.node_logged.proofs.judging.verdict.judge_run.Goals as goal

pub returns-in-None-clause-run : goal.returns-in-None-clause-run
returns-in-None-clause-run c =
    let agrees = run_agrees c.args.settings.now c.args.run c.requires.events c.requires.runs in
    run_right c.args.settings.now (tills_seen c.args.tills.now) c.args.run c.requires.events c.requires.runs
    (rw c.in-None.is at (c.in_ok-objection_in.ensures (logs_seen c.args.run.logs.items) agrees))

pub returns-in-Some-clause-refused : goal.returns-in-Some-clause-refused
returns-in-Some-clause-refused c =
    let agrees = run_agrees c.args.settings.now c.args.run c.requires.events c.requires.runs in
    c.refusal.ensures c.args.settings.now (tills_seen c.args.tills.now)
    (rw c.in-Some.is at (c.in_ok-objection_in.ensures (logs_seen c.args.run.logs.items) agrees))
