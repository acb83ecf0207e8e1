use Rattle.std.proofs.Common.{arith, ◌∙◌, refl, sym, ◌+◌, length, length-set, [], ◌≡◌, ◌/◌, ◌%◌}
use Rattle.std.specs.Int.Digits.{digits_of}
use Rattle.overpunch.specs.Number.{leading_digits}
use Rattle.overpunch.proofs.Writes.{put_behind, put_pair_behind, leading_digits_one, length-digits_of_one, leading_digits_pair, length-digits_of_pair, length-leading_digits}
use Rattle.overpunch.proofs.number.+write_digits.Goals as goal

pub returns-then-number-lt10-clause-count : goal.returns-then-number-lt10-clause-count
returns-then-number-lt10-clause-count t c = sym (length-digits_of_one c.args.number (omega arith) (omega arith))

pub returns-then-number-lt10-clause-written : goal.returns-then-number-lt10-clause-written
returns-then-number-lt10-clause-written t c =
    let one : length (digits_of 10 c.args.number) ≡ 1 = length-digits_of_one c.args.number (omega arith) (omega arith) in
    rw (leading_digits_one c.args.number (omega arith) (omega arith)) (put_behind [] c.args.text.now 0 _ refl (omega arith))

pub write_digits-places-requires : goal.write_digits-places-requires
write_digits-places-requires t c =
    let longer : length (digits_of 10 c.args.number) ≡ length (digits_of 10 (c.args.number / 100)) + 2 = length-digits_of_pair c.args.number (omega arith) in
    (omega arith, omega arith)

pub bounds-text-places : goal.bounds-text-places
bounds-text-places t c =
    let longer : length (digits_of 10 c.args.number) ≡ length (digits_of 10 (c.args.number / 100)) + 2 = length-digits_of_pair c.args.number (omega arith) in
    omega arith

pub bounds-text-places-2 : goal.bounds-text-places-2
bounds-text-places-2 t c =
    let longer : length (digits_of 10 c.args.number) ≡ length (digits_of 10 (c.args.number / 100)) + 2 = length-digits_of_pair c.args.number (omega arith) in
    omega (arith, length-set c.write_digits-places.new.text c.write_digits-places.result (48 + c.args.number % 100 / 10))

pub returns-clause-count : goal.returns-clause-count
returns-clause-count t c = omega (arith, length-digits_of_pair c.args.number (omega arith))

pub returns-clause-written : goal.returns-clause-written
returns-clause-written t c =
    let longer : length (digits_of 10 c.args.number) ≡ length (digits_of 10 (c.args.number / 100)) + 2 = length-digits_of_pair c.args.number (omega arith) in
    let places : c.write_digits-places.result ≡ length (leading_digits (c.args.number / 100)) = c.write_digits-places.ensures.count ∙ sym (length-leading_digits (c.args.number / 100)) in
    rw (c.write_digits-places.ensures.written, leading_digits_pair c.args.number (omega arith))
    (put_pair_behind (leading_digits (c.args.number / 100)) c.args.text.now c.write_digits-places.result _ _ places (omega arith))
