use Rattle.std.proofs.Common.{arith}
use Rattle.std.proofs.lemmas.List.{take_more}
use Rattle.input_text.proofs.Places.{decimal_value-push, digit_at, below_more_places}
use Rattle.input_text.proofs.decimals.value_of.Goals as goal

pub loop-digit-preserved : goal.loop-digit-preserved
loop-digit-preserved c =
    let digits = c.args.digits.now in
    let i = c.loop-digit.digit-index in
    let digit = digit_at digits i c.requires.digits c.loop-digit-test.true in (
      (rw (take_more digits i 0 c.loop-digit-test.true, decimal_value-push, ← c.loop-digit.invariant.0) (omega arith)),
      below_more_places c.loop-digit.value i c.from.result c.loop-digit.invariant.1 (omega arith),
    )
