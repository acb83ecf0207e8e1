use Rattle.std.proofs.Common.{◌≡◌, ◌≤◌, ◌^◌, ◌+◌, ◌*◌, ◌++◌, [], ◌∷◌, length, ap, sym, ◌∙◌, arith, rules, Ok}
use Rattle.std.proofs.Math.Nat.{pow-le-pow_right}
use Rattle.std.proofs.lemmas.Int.{to_z-of_z}
use Rattle.std.specs.Int.{w64}
use Rattle.std.specs.Int.RustNames.{FitsSigned}
use Rattle.overpunch.specs.Amount.{signed, amount_of}
use Rattle.overpunch.proofs.SignedTexts.{amount_of_parts}
use Rattle.overpunch.proofs.amount.Amount.read.Goals as goal

pub invariant_of-result : goal.invariant_of-result
invariant_of-result c =
    let fits : FitsSigned w64 c.with_sign.result = search rules in
    let short : length c.in-Some.front.now ≤ 7 = omega (arith, c.in-Some.ensures.cases) in
    let power : 10 ^ length c.in-Some.front.now ≤ 10 ^ 7 = pow-le-pow_right (omega arith) short in
    simp to_z-of_z (omega (arith, c.in-Ok.ensures.small, c.in-Some-last_digit.ensures.digit))

pub returns-in-Some-last_digit : goal.returns-in-Some-last_digit
returns-in-Some-last_digit c =
    let fits : FitsSigned w64 c.with_sign.result = search rules in
    let short : length c.in-Some.front.now ≤ 7 = omega (arith, c.in-Some.ensures.cases) in
    let whole : c.args.text.now ≡ c.in-Some.front.now ++ c.in-Some.last.now ∷ [] = c.in-Some.ensures.cases.0 in
    simp to_z-of_z
    (ap Ok (c.with_sign.ensures.value ∙ ap (λ digit. signed c.in-Some-last_digit.sign (c.in-Ok.tens * 10 + digit)) c.from.ensures)
    ∙ sym (amount_of_parts c.in-Some.front.now c.in-Some.last.now c.in-Ok.tens c.in-Some-last_digit.digit c.in-Some-last_digit.sign short (sym c.in-Ok.ensures.value) (sym c.in-Some-last_digit.ensures.value))
    ∙ ap amount_of (sym whole))
