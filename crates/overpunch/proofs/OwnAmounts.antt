-- Amounts and their own texts: what a text that reads has, and that the own text reads and is no longer.
use Rattle.std.proofs.Common.{◌≡◌, ℕ, zero, suc, ℤ, pos, negsuc, ◌+◌, ◌-◌, ◌*◌, ◌/◌, ◌%◌, ◌^◌, ◌<◌, ◌≤◌, ◌==◌, Bool, true, false, cond, List, [], ◌∷◌, ◌++◌, length, slice_index, nat_eq, nat_lt, Option, Some, None, Ok, Err, refl, ◌∙◌, ap, arith, length-append}
use Rattle.std.proofs.Math.Nat.{pow-suc, pow-le-pow_right}
use Rattle.std.proofs.lemmas.List.{length-take-le}
use Rattle.std.proofs.lemmas.List.Quantifiers.{position-Some}
use Rattle.std.proofs.lemmas.Bool.Decides.{nat_tests}
use Rattle.std.specs.Char.{is_ascii_digit}
use Rattle.std.specs.Int.Digits.{digits_of}
use Rattle.std.specs.Int.RustNames.{unsigned_abs}
use Rattle.overpunch.specs.declared.amount.Sign.{Sign}
use Rattle.overpunch.specs.declared.amount.Sign.TheVariants.{Positive, Negative}
use Rattle.overpunch.specs.declared.amount.AmountFault.TheVariants.{Empty, TooLong}
use Rattle.overpunch.specs.Number.{places_value, digits_in, number_value, first_other, spelled_number, leading_digits}
use Rattle.overpunch.specs.Amount.{IsAmount, signed_digits, digit_among, either_sign, last_digit_of, signed, signed_number, front_of, last_of, amount_of, sign_of, amount_text}
use Rattle.overpunch.proofs.Places.{places_value_push}
use Rattle.overpunch.proofs.Texts.{number_value-lt, digits_from_none}
use Rattle.overpunch.proofs.Writes.{length-leading_digits}
use Rattle.overpunch.proofs.SignedTexts.{unsigned_abs-signed, amount_of_parts}
use Rattle.overpunch.proofs.OwnNumbers.{few_leading, few_digits, leading_alone, leading_value}

-- what a text that reads as an amount has
pub record IsSigned (text : List ℕ) (cents : ℤ) : Type 0 where
  pub some : 0 < length text
  pub short : length text ≤ 8
  pub alone : first_other (front_of text) ≡ None
  pub sign : Sign
  pub digit : ℕ
  pub ends : last_digit_of (last_of text) ≡ Some (sign, digit)
  pub value : cents ≡ signed sign (places_value (digits_in (front_of text) ++ digit ∷ []))

passed : (front : List ℕ) (cents : ℤ) (empty long : Bool) (other : Option ℕ) (last : Option (Sign × ℕ)) → cond empty (Err Empty) (cond long (Err TooLong) (signed_number front other last)) ≡ Ok cents
    → (empty ≡ false) × (long ≡ false) × (other ≡ None) × ((sign : Sign) × (digit : ℕ) × (last ≡ Some (sign, digit)) × (cents ≡ signed sign (places_value (digits_in front ++ digit ∷ []))))
passed front cents true long other last e = cc
passed front cents false true other last e = cc
passed front cents false false (Some place) last e = cc
passed front cents false false None None e = cc
passed front cents false false None (Some last) e = (refl, refl, refl, (last.0, last.1, refl, cc))

pub amount_is_read : (text : List ℕ) (cents : ℤ) → amount_of text ≡ Ok cents → IsSigned text cents
unfolding amount_of
amount_is_read text cents e =
    let tests = passed (front_of text) cents (nat_eq (length text) 0) (nat_lt 8 (length text)) (first_other (front_of text)) (last_digit_of (last_of text)) e in
    record { some = some_from (length text) tests.0; short = short_from (length text) tests.1; alone = tests.2; sign = tests.3.0; digit = tests.3.1; ends = tests.3.2; value = tests.3.3 }
  where
    some_from : (n : ℕ) → nat_eq n 0 ≡ false → 0 < n
    some_from n e = grind (arith, nat_tests)

    short_from : (n : ℕ) → nat_lt 8 n ≡ false → n ≤ 8
    short_from n e = grind (arith, nat_tests)

ten_signed : (sign : Sign) → length (signed_digits sign) ≡ 10
ten_signed Positive = refl
ten_signed Negative = refl

among_below : (sign : Sign) (byte digit : ℕ) → digit_among sign byte ≡ Some digit → digit < 10
among_below sign byte digit e =
    let place = position-Some (λ signed. signed == byte) (signed_digits sign) digit 0 e in
    omega (arith, place.0, ten_signed sign)

second_of : (a b : Sign × ℕ) → Some a ≡ Some b → a.1 ≡ b.1
second_of a b e = let same : a ≡ b = cc in ap (λ (p : Sign × ℕ). p.1) same

either_below : (positive negative : Option ℕ) (sign : Sign) (digit : ℕ) → ((d : ℕ) → positive ≡ Some d → d < 10) → ((d : ℕ) → negative ≡ Some d → d < 10) → either_sign positive negative ≡ Some (sign, digit) → digit < 10
either_below (Some d) negative sign digit p n e = let same : d ≡ digit = second_of (Positive, d) (sign, digit) e in omega (arith, p d refl)
either_below None (Some d) sign digit p n e = let same : d ≡ digit = second_of (Negative, d) (sign, digit) e in omega (arith, n d refl)
either_below None None sign digit p n e = cc

-- a last digit is a digit
pub last_digit_below : (byte : ℕ) (sign : Sign) (digit : ℕ) → last_digit_of byte ≡ Some (sign, digit) → digit < 10
last_digit_below byte sign digit e = by_test (is_ascii_digit byte) refl e
  where
    plain_below : (c : ℕ) → is_ascii_digit c ≡ true → c - 48 < 10
    plain_below c t = grind (arith, nat_tests)

    by_test : (plain : Bool) → is_ascii_digit byte ≡ plain → cond plain (Some (Positive, byte - 48)) (either_sign (digit_among Positive byte) (digit_among Negative byte)) ≡ Some (sign, digit) → digit < 10
    by_test true t h = let same : byte - 48 ≡ digit = second_of (Positive, byte - 48) (sign, digit) h in omega (arith, plain_below byte t)
    by_test false t h = either_below (digit_among Positive byte) (digit_among Negative byte) sign digit (among_below Positive byte) (among_below Negative byte) h

-- the magnitude of a text of this many bytes
pub magnitude_below : (text : List ℕ) (cents : ℤ) → IsSigned text cents → unsigned_abs cents < 10 ^ length text
magnitude_below text cents r =
    let front : length (front_of text) ≡ length text - 1 = length-take-le (length text - 1) text (omega arith) in
    let tens : number_value (front_of text) < 10 ^ length (front_of text) = number_value-lt (front_of text) (digits_from_none (front_of text) r.alone) in
    let value : places_value (digits_in (front_of text) ++ r.digit ∷ []) ≡ number_value (front_of text) * 10 + r.digit = places_value_push (digits_in (front_of text)) r.digit in
    let below : r.digit < 10 = last_digit_below (last_of text) r.sign r.digit r.ends in
    let magnitude : unsigned_abs cents ≡ number_value (front_of text) * 10 + r.digit = ap unsigned_abs r.value ∙ unsigned_abs-signed r.sign (places_value (digits_in (front_of text) ++ r.digit ∷ [])) ∙ value in
    let long : length text ≡ suc (length (front_of text)) = omega arith in
    rw (long, pow-suc 10 (length (front_of text))) (omega arith)

pub amount_fits : (text : List ℕ) (cents : ℤ) → amount_of text ≡ Ok cents → IsAmount cents
amount_fits text cents e =
    let r = amount_is_read text cents e in
    let power : 10 ^ length text ≤ 10 ^ 8 = pow-le-pow_right (omega arith) r.short in
    omega (arith, magnitude_below text cents r)

-- the byte that stands for a digit with a sign stands for it
written_last : (sign : Sign) (digit : ℕ) → digit < 10 → last_digit_of (slice_index (signed_digits sign) digit) ≡ Some (sign, digit)
written_last Positive zero h = refl
written_last Positive (suc zero) h = refl
written_last Positive (suc (suc zero)) h = refl
written_last Positive (suc (suc (suc zero))) h = refl
written_last Positive (suc (suc (suc (suc zero)))) h = refl
written_last Positive (suc (suc (suc (suc (suc zero))))) h = refl
written_last Positive (suc (suc (suc (suc (suc (suc zero)))))) h = refl
written_last Positive (suc (suc (suc (suc (suc (suc (suc zero))))))) h = refl
written_last Positive (suc (suc (suc (suc (suc (suc (suc (suc zero)))))))) h = refl
written_last Positive (suc (suc (suc (suc (suc (suc (suc (suc (suc zero))))))))) h = refl
written_last Positive (suc (suc (suc (suc (suc (suc (suc (suc (suc (suc d)))))))))) h = absurd (omega arith)
written_last Negative zero h = refl
written_last Negative (suc zero) h = refl
written_last Negative (suc (suc zero)) h = refl
written_last Negative (suc (suc (suc zero))) h = refl
written_last Negative (suc (suc (suc (suc zero)))) h = refl
written_last Negative (suc (suc (suc (suc (suc zero))))) h = refl
written_last Negative (suc (suc (suc (suc (suc (suc zero)))))) h = refl
written_last Negative (suc (suc (suc (suc (suc (suc (suc zero))))))) h = refl
written_last Negative (suc (suc (suc (suc (suc (suc (suc (suc zero)))))))) h = refl
written_last Negative (suc (suc (suc (suc (suc (suc (suc (suc (suc zero))))))))) h = refl
written_last Negative (suc (suc (suc (suc (suc (suc (suc (suc (suc (suc d)))))))))) h = absurd (omega arith)

-- an amount is its magnitude with its sign
signed_again : (cents : ℤ) → signed (sign_of cents) (unsigned_abs cents) ≡ cents
signed_again (pos n) = refl
signed_again (negsuc n) = refl

-- an amount's own text reads back
pub own_amount_reads : (cents : ℤ) → IsAmount cents → amount_of (amount_text cents) ≡ Ok cents
unfolding amount_text
own_amount_reads cents h =
    let m = unsigned_abs cents in
    let short : length (leading_digits (m / 10)) ≤ 7 = omega (arith, length-leading_digits (m / 10), few_leading 7 m h) in
    let spelled : spelled_number (leading_digits (m / 10)) ≡ Ok (m / 10) = rw (leading_alone (m / 10), leading_value (m / 10)) refl in
    let whole : m / 10 * 10 + m % 10 ≡ m = omega arith in
    amount_of_parts (leading_digits (m / 10)) (slice_index (signed_digits (sign_of cents)) (m % 10)) (m / 10) (m % 10) (sign_of cents) short spelled (written_last (sign_of cents) (m % 10) (omega arith))
    ∙ ap (λ n. Ok (signed (sign_of cents) n)) whole ∙ ap Ok (signed_again cents)

pub length-amount_text : (cents : ℤ) → length (amount_text cents) ≡ length (digits_of 10 (unsigned_abs cents / 10)) + 1
unfolding amount_text
length-amount_text cents =
    rw (length-append (leading_digits (unsigned_abs cents / 10)) (slice_index (signed_digits (sign_of cents)) (unsigned_abs cents % 10) ∷ []), length-leading_digits (unsigned_abs cents / 10)) refl

-- no text of an amount is shorter than its own
pub own_amount_shortest : (text : List ℕ) (cents : ℤ) → amount_of text ≡ Ok cents → length (amount_text cents) ≤ length text
own_amount_shortest text cents e =
    let r = amount_is_read text cents e in
    omega (arith, length-amount_text cents, few_digits (length text) (unsigned_abs cents) r.some (magnitude_below text cents r))
