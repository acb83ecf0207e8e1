use Rattle.std.proofs.lemmas.Result.{err_from_is_err_and}
use Rattle.program_io.specs.Stops.{schedule_told}
use Rattle.read_and_replay.proofs.SaidLines.{output_is, output_refused}
use Rattle.read_and_replay.proofs.answers.answers.Goals as goal

pub returns-in_err-put_lines-clause-fault : goal.returns-in_err-put_lines-clause-fault
returns-in_err-put_lines-clause-fault c =
    let p = err_from_is_err_and c.from_residual-in_err-put_lines.result c.from_residual-in_err-put_lines.ensures.1 in
    rw (p.1, p.2) (output_refused (schedule_told c.in_err-put_lines.field-0.0) c.args.input.items (rw c.as_slice.ensures.value at c.in_err-put_lines.ensures.fault))

pub returns-clause-all : goal.returns-clause-all
returns-clause-all c =
    output_is c.args.input.items c.put_lines.new.output.items (rw (c.in_ok-routes.ensures, c.in_ok-book.ensures, c.in_ok-output.ensures.items, c.as_slice.ensures.value) at c.in_ok-put_lines.ensures.lines)
