use Rattle.std.proofs.Common.{arith, ◌∙◌, sym, length, ◌≡◌, ◌≤◌, ◌/◌}
use Rattle.std.specs.Int.Digits.{digits_of}
use Rattle.std.proofs.lemmas.Int.Digits.{length-digits_of-le}
use Rattle.overpunch.specs.Number.{leading_digits, number_text}
use Rattle.overpunch.proofs.Writes.{put_behind_front, length-leading_digits}
use Rattle.overpunch.proofs.number.write_number.Goals as goal

pub write_digits-places-requires : goal.write_digits-places-requires
write_digits-places-requires c =
    let short : length (digits_of 10 (c.args.number / 10)) ≤ 19 = length-digits_of-le 10 19 (c.args.number / 10) (omega arith) (omega arith) in
    omega arith

pub bounds-text-places : goal.bounds-text-places
bounds-text-places c =
    let short : length (digits_of 10 (c.args.number / 10)) ≤ 19 = length-digits_of-le 10 19 (c.args.number / 10) (omega arith) (omega arith) in
    omega arith

pub returns-clause-written : goal.returns-clause-written
unfolding number_text
returns-clause-written c =
    let short : length (digits_of 10 (c.args.number / 10)) ≤ 19 = length-digits_of-le 10 19 (c.args.number / 10) (omega arith) (omega arith) in
    let places : c.write_digits-places.result ≡ length (leading_digits (c.args.number / 10)) = c.write_digits-places.ensures.count ∙ sym (length-leading_digits (c.args.number / 10)) in
    rw c.write_digits-places.ensures.written (put_behind_front (leading_digits (c.args.number / 10)) c.args.text.now c.write_digits-places.result _ places (omega arith))
