use Rattle.std.proofs.Common.{◌<◌, ◌^◌, length, take, arith}
use Rattle.overpunch.specs.Number.{number_value}
use Rattle.overpunch.proofs.Texts.{number_value_front-lt}
use Rattle.overpunch.proofs.number.spelled.Goals as goal

pub overflow_mul-value : goal.overflow_mul-value
overflow_mul-value c =
    let l = c.loop-place in
    let bound : number_value (take l.place c.args.text.now) < 10 ^ 17 = number_value_front-lt c.args.text.now l.place 17 l.invariant.digits (omega arith) (omega arith) in
    omega (arith, l.invariant.value)

pub overflow_add-value : goal.overflow_add-value
overflow_add-value c =
    let l = c.loop-place in
    let bound : number_value (take l.place c.args.text.now) < 10 ^ 17 = number_value_front-lt c.args.text.now l.place 17 l.invariant.digits (omega arith) (omega arith) in
    omega (arith, l.invariant.value)

pub returns-clause-small : goal.returns-clause-small
returns-clause-small c =
    let l = c.loop-place in
    let bound : number_value (take l.place c.args.text.now) < 10 ^ length c.args.text.now = number_value_front-lt c.args.text.now l.place (length c.args.text.now) l.invariant.digits (omega arith) (omega arith) in
    omega (arith, l.invariant.value)
