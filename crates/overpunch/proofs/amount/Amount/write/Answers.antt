use Rattle.std.proofs.Common.{◌≡◌, ℕ, ◌<◌, ◌≤◌, ◌/◌, ◌%◌, ◌^◌, ◌∙◌, sym, ap, arith, rules, length, slice_index}
use Rattle.std.proofs.lemmas.Int.{to_z-of_z}
use Rattle.std.specs.Int.{w64}
use Rattle.std.specs.Int.Digits.{digits_of}
use Rattle.std.specs.Int.RustNames.{unsigned_abs, FitsSigned}
use Rattle.std.proofs.lemmas.Int.Digits.{length-digits_of-le}
use Rattle.overpunch.specs.Number.{leading_digits}
use Rattle.overpunch.specs.Amount.{amount_text, signed_digits, sign_of}
use Rattle.overpunch.proofs.Writes.{put_behind_front, length-leading_digits}
use Rattle.overpunch.proofs.SignedTexts.{amount_text_parts}
use Rattle.overpunch.proofs.amount.Amount.write.Goals as goal

-- an amount has at most seven digits before the last
few : (magnitude : ℕ) → magnitude < 10 ^ 8 → length (digits_of 10 (magnitude / 10)) ≤ 7
few magnitude h = length-digits_of-le 10 7 (magnitude / 10) (omega arith) (omega arith)

pub write_digits-places-requires : goal.write_digits-places-requires
write_digits-places-requires c =
    let fits : FitsSigned w64 c.self.inside.cents = search rules in
    let magnitude : c.unsigned_abs-magnitude.result ≡ unsigned_abs c.self.inside.cents = simp to_z-of_z at c.unsigned_abs-magnitude.ensures.value in
    omega (arith, few c.unsigned_abs-magnitude.result (omega (arith, c.self.invariant)))

pub bounds-text-places : goal.bounds-text-places
bounds-text-places c =
    let fits : FitsSigned w64 c.self.inside.cents = search rules in
    let magnitude : c.unsigned_abs-magnitude.result ≡ unsigned_abs c.self.inside.cents = simp to_z-of_z at c.unsigned_abs-magnitude.ensures.value in
    omega (arith, few c.unsigned_abs-magnitude.result (omega (arith, c.self.invariant)))

pub returns-clause-written : goal.returns-clause-written
returns-clause-written c =
    let fits : FitsSigned w64 c.self.inside.cents = search rules in
    let magnitude : c.unsigned_abs-magnitude.result ≡ unsigned_abs c.self.inside.cents = simp to_z-of_z at c.unsigned_abs-magnitude.ensures.value in
    let places : c.write_digits-places.result ≡ length (leading_digits (c.unsigned_abs-magnitude.result / 10)) = c.write_digits-places.ensures.count ∙ sym (length-leading_digits (c.unsigned_abs-magnitude.result / 10)) in
    let room : c.write_digits-places.result < length c.args.text.now = omega (arith, few c.unsigned_abs-magnitude.result (omega (arith, c.self.invariant))) in
    let last : c.last_byte.result ≡ slice_index (signed_digits (sign_of c.self.inside.cents)) (c.unsigned_abs-magnitude.result % 10) = simp to_z-of_z at c.last_byte.ensures in
    rw c.write_digits-places.ensures.written (put_behind_front (leading_digits (c.unsigned_abs-magnitude.result / 10)) c.args.text.now c.write_digits-places.result c.last_byte.result places room)
    ∙ amount_text_parts c.self.inside.cents c.unsigned_abs-magnitude.result c.last_byte.result magnitude last
    ∙ ap amount_text c.self.view_is
