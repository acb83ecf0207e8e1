use Rattle.std.proofs.Common.{sym}
use Rattle.log_folder.proofs.Standing.{no_size, no_complement, other_complement}
use Rattle.log_folder.proofs.undamaged.has_length.Goals as goal

pub returns-in_default : goal.returns-in_default
returns-in_default c = λ _. no_size c.args.bytes.now (sym c.in_default.ensures)

pub returns-in_default-take_u64 : goal.returns-in_default-take_u64
returns-in_default-take_u64 c = λ _. no_complement c.args.bytes.now c.in-Some.size c.in-Some.rest.now (sym c.in-Some.ensures) (sym c.in_default-take_u64.ensures)

pub returns : goal.returns
returns c = other_complement c.args.bytes.now c.in-Some.size c.in-Some.rest.now c.in-Some-take_u64.complement c.in-Some-take_u64.field-0-1.now (sym c.in-Some.ensures) (sym c.in-Some-take_u64.ensures)
