use Rattle.world_settings.specs.Document.{document_seen}
use Rattle.schedule.specs.Runs.{run_seen}
use Rattle.program_io.specs.Scheduled.{opened_world}
use Rattle.schedule_run.proofs.AskedRuns.{asked_is, asked_stops}
use Rattle.schedule_run.proofs.asked.asked_of.Goals as goal

pub returns-in-Ok-clause-asked : goal.returns-in-Ok-clause-asked
returns-in-Ok-clause-asked c =
    let opens = rw (c.as_slice.ensures.value, c.in_ok-parts.ensures.settings) at c.in_ok-settings.ensures.opens in
    let spells = rw c.in_ok-parts.ensures.schedule at c.in-Ok.ensures.read in
    asked_is c.args.input.now (opened_world (document_seen c.in_ok-settings.settings)) (run_seen c.in-Ok.run') opens spells

pub returns-clause-fault : goal.returns-clause-fault
returns-clause-fault c =
    let opens = rw (c.as_slice.ensures.value, c.in_ok-parts.ensures.settings) at c.in_ok-settings.ensures.opens in
    let spells = rw c.in_ok-parts.ensures.schedule at (rw c.in-Err-Line.field-0-is at c.in-Err-Line.ensures.refused) in
    rw c.in-Err-Line.field-0-is (asked_stops c.args.input.now (opened_world (document_seen c.in_ok-settings.settings)) c.in-Err-Line.number opens spells)
