use Rattle.std.proofs.lemmas.Result.{err_from_is_err_and}
use Rattle.program_io.specs.declared.fault.CheckFault.TheVariants as check
use Rattle.program_io.specs.declared.fault.InputFault.TheVariants.{Line}
use Rattle.read_and_replay.proofs.Begun.{scheduled_stops, scheduled_never}
use Rattle.read_and_replay.proofs.RunLines.{refused_too}
use Rattle.read_and_replay.proofs.replaying.ran.Goals as goal

pub returns-in_err-world-clause-fault : goal.returns-in_err-world-clause-fault
returns-in_err-world-clause-fault c =
    let why = rw (c.as_slice-2.ensures.value, c.in_ok-parts.ensures.settings, c.as_slice.ensures.value) at c.in_err-world.ensures.fault in
    let p = err_from_is_err_and c.from_residual-in_err-world.result c.from_residual-in_err-world.ensures.1 in
    rw (p.1, p.2) (refused_too _ c.args.input.items (scheduled_never c.args.input.items c.in_err-world.field-0.0 why))

pub returns-in-Ok-clause-run : goal.returns-in-Ok-clause-run
returns-in-Ok-clause-run c = record {
  before = c.in_ok-world.world;
  opens = rw (c.as_slice-2.ensures.value, c.in_ok-parts.ensures.settings, c.as_slice.ensures.value) at c.in_ok-world.ensures.made;
  run = rw (c.in_ok-parts.ensures.schedule, c.as_slice.ensures.value, c.new-report.ensures.items) at c.in-Ok.ensures.run;
}

pub returns-clause-fault : goal.returns-clause-fault
returns-clause-fault c =
    let opens = rw (c.as_slice-2.ensures.value, c.in_ok-parts.ensures.settings, c.as_slice.ensures.value) at c.in_ok-world.ensures.made in
    let spells = rw (c.in_ok-parts.ensures.schedule, c.as_slice.ensures.value) at (rw c.in-Err-Line.field-0-is at c.in-Err-Line.ensures.refused) in
    rw c.in-Err-Line.field-0-is (refused_too (check.Input (Line c.in-Err-Line.number)) c.args.input.items (scheduled_stops c.args.input.items c.in_ok-world.world c.in-Err-Line.number opens spells))
