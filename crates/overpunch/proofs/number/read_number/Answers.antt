use Rattle.std.proofs.Common.{◌≤◌, ◌^◌, length, arith}
use Rattle.std.proofs.Math.Nat.{pow-le-pow_right}
use Rattle.overpunch.proofs.number.read_number.Goals as goal

pub returns-in-Ok-clause-small : goal.returns-in-Ok-clause-small
returns-in-Ok-clause-small c =
    let power : 10 ^ length c.args.text.now ≤ 10 ^ c.args.digits = pow-le-pow_right (omega arith) c.if-text-digits.false in
    omega (arith, c.in-Ok.ensures.small)
