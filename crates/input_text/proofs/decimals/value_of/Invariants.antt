use Rattle.std.proofs.Common.{◌≡◌, ◌<◌, ◌^◌, take}
use Rattle.input_text.specs.Decimals.{decimal_value}
use Rattle.input_text.proofs.decimals.value_of.Given as goal

abbrev pub invariant-loop-digit : goal.invariant-loop-digit
invariant-loop-digit l = (l.value ≡ decimal_value (take l.digit-index l.digits)) × (l.value < 10 ^ l.digit-index)
