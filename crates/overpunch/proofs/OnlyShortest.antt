-- A text as short as a number's or an amount's own is its own.
use Rattle.std.proofs.Common.{◌≡◌, ◌≢◌, ℕ, zero, suc, ℤ, pos, ◌+◌, ◌-◌, ◌*◌, ◌/◌, ◌%◌, ◌^◌, ◌<◌, ◌≤◌, ◌==◌, true, false, List, [], ◌∷◌, ◌++◌, length, map, take, get_or, slice_index, Option, Some, None, Ok, refl, sym, ◌∙◌, ap, arith, add-one}
use Rattle.std.proofs.Math.Nat.{mul-le-mul_right, one-le-pow}
use Rattle.std.proofs.Math.Seq.{take-length}
use Rattle.std.proofs.lemmas.List.{take_more, length-map, length-take-le}
use Rattle.std.proofs.lemmas.List.Quantifiers.{position-Some}
use Rattle.std.proofs.lemmas.Bool.Decides.{nat_tests}
use Rattle.std.proofs.lemmas.Int.Digits.{digits_of_step, length-digits_of-le}
use Rattle.std.specs.List.{AllByRecursion}
use Rattle.std.specs.Char.{IsAsciiDigit, is_ascii_digit}
use Rattle.std.specs.Int.Digits.{digits_of}
use Rattle.std.specs.Int.RustNames.{unsigned_abs}
use Rattle.overpunch.specs.declared.amount.Sign.{Sign}
use Rattle.overpunch.specs.declared.amount.Sign.TheVariants.{Positive, Negative}
use Rattle.overpunch.specs.Number.{places_value, digits_in, number_value, number_of, leading_digits, number_text}
use Rattle.overpunch.specs.Amount.{signed_digits, digit_among, either_sign, last_digit_of, signed, front_of, last_of, amount_of, sign_of, amount_text}
use Rattle.overpunch.proofs.Places.{places_value_push, places_value-lt}
use Rattle.overpunch.proofs.Texts.{AreDigits, digits_below, digits_from_none}
use Rattle.overpunch.proofs.Writes.{leading_digits_step, length-leading_digits}
use Rattle.overpunch.proofs.SignedTexts.{unsigned_abs-signed, amount_text_parts}
use Rattle.overpunch.proofs.OwnNumbers.{number_is_read}
use Rattle.overpunch.proofs.OwnAmounts.{amount_is_read, last_digit_below, length-amount_text}

-- a digit at each place
below_at : (ds : List ℕ) (i : ℕ) → AllByRecursion (λ d. d < 10) ds → i < length ds → get_or ds i 0 < 10
below_at [] i h p = absurd (omega arith)
below_at (x ∷ xs) zero h p = h.0
below_at (x ∷ xs) (suc i) h p = below_at xs i h.1 (omega arith)

some_value : (x : ℕ) (xs : List ℕ) → 0 < x → 0 < places_value (x ∷ xs)
some_value x xs h =
    let power : 1 ≤ 10 ^ length xs = one-le-pow (length xs) 10 (omega arith) in
    let front : 1 * 10 ^ length xs ≤ x * 10 ^ length xs = mul-le-mul_right (10 ^ length xs) h in
    omega arith

-- digits that begin above zero are those of their sum
front_digits : (x : ℕ) (xs : List ℕ) (i : ℕ) → AllByRecursion (λ d. d < 10) (x ∷ xs) → 0 < x → i ≤ length (x ∷ xs) → digits_of 10 (places_value (take i (x ∷ xs))) ≡ take i (x ∷ xs)
front_digits x xs zero h some within = refl
front_digits x xs (suc i) h some within =
    let below : get_or (x ∷ xs) i 0 < 10 = below_at (x ∷ xs) i h (omega arith) in
    let more : take (suc i) (x ∷ xs) ≡ take i (x ∷ xs) ++ get_or (x ∷ xs) i 0 ∷ [] = rw add-one at (take_more (x ∷ xs) i 0 (omega arith)) in
    let value : places_value (take (suc i) (x ∷ xs)) ≡ places_value (take i (x ∷ xs)) * 10 + get_or (x ∷ xs) i 0 = ap places_value more ∙ places_value_push (take i (x ∷ xs)) (get_or (x ∷ xs) i 0) in
    let positive : 0 < places_value (take (suc i) (x ∷ xs)) = some_value x (take i xs) some in
    step (places_value (take (suc i) (x ∷ xs))) (places_value (take i (x ∷ xs))) (get_or (x ∷ xs) i 0) (take i (x ∷ xs)) positive below value (front_digits x xs i h some (omega arith)) ∙ sym more
  where
    step : (n p d : ℕ) (front : List ℕ) → 0 < n → d < 10 → n ≡ p * 10 + d → digits_of 10 p ≡ front → digits_of 10 n ≡ front ++ d ∷ []
    step n p d front positive below value same =
        let tenth : n / 10 ≡ p = omega arith in
        let ones : n % 10 ≡ d = omega arith in
        digits_of_step 10 n (omega arith) positive ∙ rw (tenth, ones, same) refl

-- digits as few as those of their sum are those
same_digits : (ds : List ℕ) → AllByRecursion (λ d. d < 10) ds → length ds ≤ length (digits_of 10 (places_value ds)) → ds ≡ digits_of 10 (places_value ds)
same_digits [] h short = refl
same_digits (zero ∷ xs) h short =
    let below : places_value (zero ∷ xs) < 10 ^ length xs = omega (arith, places_value-lt xs h.1) in
    absurd (omega (arith, length-digits_of-le 10 (length xs) (places_value (zero ∷ xs)) (omega arith) below))
same_digits (suc x ∷ xs) h short =
    let whole : take (length (suc x ∷ xs)) (suc x ∷ xs) ≡ suc x ∷ xs = take-length (suc x ∷ xs) in
    sym (ap (λ ds. digits_of 10 (places_value ds)) (sym whole) ∙ front_digits (suc x) xs (length (suc x ∷ xs)) h (omega arith) (omega arith) ∙ whole)

-- a text of digits spells its digits
text_again : (text : List ℕ) → AreDigits text → text ≡ map (λ d. 48 + d) (digits_in text)
text_again [] h = refl
text_again (x ∷ xs) h =
    let digit : IsAsciiDigit x = h 0 (omega arith) in
    let here : x ≡ 48 + (x - 48) = omega arith in
    let rest : xs ≡ map (λ d. 48 + d) (digits_in xs) = text_again xs (λ k q. h (suc k) (omega arith)) in
    cc

-- a text of digits as short as those of its value is those
pub leading_only : (text : List ℕ) (n : ℕ) → AreDigits text → number_value text ≡ n → length text ≤ length (digits_of 10 n) → text ≡ leading_digits n
leading_only text n are value short =
    let same : digits_in text ≡ digits_of 10 (number_value text) = same_digits (digits_in text) (digits_below text are) (rw (length-map text (λ byte. byte - 48), value) short) in
    text_again text are ∙ ap (λ ds. map (λ d. 48 + d) ds) (same ∙ ap (digits_of 10) value)

parts_of : (a b : Sign × ℕ) → Some a ≡ Some b → (a.0 ≡ b.0) × (a.1 ≡ b.1)
parts_of a b e = let same : a ≡ b = cc in (ap (λ (p : Sign × ℕ). p.0) same, ap (λ (p : Sign × ℕ). p.1) same)

-- one digit of value zero
lone_zero : (text : List ℕ) → 0 < length text → length text ≤ 1 → AreDigits text → number_value text ≡ 0 → text ≡ 48 ∷ []
lone_zero [] some short h e = absurd (omega arith)
lone_zero (x ∷ []) some short h e = let digit : IsAsciiDigit x = h 0 (omega arith) in let zero_digit : x ≡ 48 = omega arith in ap (λ byte. byte ∷ []) zero_digit
lone_zero (x ∷ y ∷ zs) some short h e = absurd (omega arith)

own_positive : (n : ℕ) → 0 < n → number_text n ≡ leading_digits n
unfolding number_text
own_positive n h = sym (leading_digits_step n h)

own_zero : number_text 0 ≡ 48 ∷ []
unfolding number_text
own_zero = refl

-- a text as short as a number's own is its own
pub number_only : (digits : ℕ) (text : List ℕ) (n : ℕ) → number_of digits text ≡ Ok n → length text ≤ length (number_text n) → text ≡ number_text n
number_only digits text zero e short =
    let r = number_is_read digits text 0 e in
    lone_zero text r.some (rw own_zero at short) (digits_from_none text r.alone) r.value ∙ sym own_zero
number_only digits text (suc n) e short =
    let r = number_is_read digits text (suc n) e in
    let own : number_text (suc n) ≡ leading_digits (suc n) = own_positive (suc n) (omega arith) in
    let few : length text ≤ length (digits_of 10 (suc n)) = omega (arith, ap length own, length-leading_digits (suc n)) in
    leading_only text (suc n) (digits_from_none text r.alone) r.value few ∙ sym own

sign_again : (sign : Sign) (n : ℕ) (cents : ℤ) → cents ≡ signed sign n → cents ≢ pos 0 → sign_of cents ≡ sign
sign_again Positive n cents e some = ap sign_of e
sign_again Negative zero cents e some = absurd (some e)
sign_again Negative (suc n) cents e some = ap sign_of e

abbrev pick : Sign → Option ℕ → Option ℕ → Option ℕ
pick Positive positive negative = positive
pick Negative positive negative = negative

picked : (positive negative : Option ℕ) (sign : Sign) (digit : ℕ) → either_sign positive negative ≡ Some (sign, digit) → pick sign positive negative ≡ Some digit
picked (Some d) negative Positive digit e = ap Some (parts_of (Positive, d) (Positive, digit) e).1
picked (Some d) negative Negative digit e = let apart : Positive ≡ Negative = (parts_of (Positive, d) (Negative, digit) e).0 in cc
picked None (Some d) Positive digit e = let apart : Negative ≡ Positive = (parts_of (Negative, d) (Positive, digit) e).0 in cc
picked None (Some d) Negative digit e = ap Some (parts_of (Negative, d) (Negative, digit) e).1
picked None None sign digit e = cc

-- a last byte that is no plain digit stands in its sign's row at its digit
row_again : (sign : Sign) (byte digit : ℕ) → is_ascii_digit byte ≡ false → last_digit_of byte ≡ Some (sign, digit) → byte ≡ slice_index (signed_digits sign) digit
row_again sign byte digit table e =
    let either : either_sign (digit_among Positive byte) (digit_among Negative byte) ≡ Some (sign, digit) = rw table at e in
    let among : digit_among sign byte ≡ Some digit = of_sign sign (picked (digit_among Positive byte) (digit_among Negative byte) sign digit either) in
    sym (same_from (get_or (signed_digits sign) digit 0) byte (position-Some (λ signed. signed == byte) (signed_digits sign) digit 0 among).1)
  where
    of_sign : (s : Sign) → pick s (digit_among Positive byte) (digit_among Negative byte) ≡ Some digit → digit_among s byte ≡ Some digit
    of_sign Positive h = h
    of_sign Negative h = h

    same_from : (m n : ℕ) → (m == n) ≡ true → m ≡ n
    same_from m n t = grind (arith, nat_tests)

-- a text as short as an amount's own, with its sign, is its own
pub amount_only : (text : List ℕ) (cents : ℤ) → amount_of text ≡ Ok cents → cents ≢ pos 0 → is_ascii_digit (last_of text) ≡ false → length text ≤ length (amount_text cents) → text ≡ amount_text cents
amount_only text cents e some table short =
    let r = amount_is_read text cents e in
    let value : places_value (digits_in (front_of text) ++ r.digit ∷ []) ≡ number_value (front_of text) * 10 + r.digit = places_value_push (digits_in (front_of text)) r.digit in
    let magnitude : unsigned_abs cents ≡ number_value (front_of text) * 10 + r.digit = ap unsigned_abs r.value ∙ unsigned_abs-signed r.sign (places_value (digits_in (front_of text) ++ r.digit ∷ [])) ∙ value in
    let below : r.digit < 10 = last_digit_below (last_of text) r.sign r.digit r.ends in
    let tens : number_value (front_of text) ≡ unsigned_abs cents / 10 = omega arith in
    let ones : unsigned_abs cents % 10 ≡ r.digit = omega arith in
    let front_length : length (front_of text) ≡ length text - 1 = length-take-le (length text - 1) text (omega arith) in
    let front : front_of text ≡ leading_digits (unsigned_abs cents / 10) = leading_only (front_of text) (unsigned_abs cents / 10) (digits_from_none (front_of text) r.alone) tens (omega (arith, length-amount_text cents)) in
    let sign : sign_of cents ≡ r.sign = sign_again r.sign (places_value (digits_in (front_of text) ++ r.digit ∷ [])) cents r.value some in
    let last : last_of text ≡ slice_index (signed_digits (sign_of cents)) (unsigned_abs cents % 10) = rw (sign, ones) (row_again r.sign (last_of text) r.digit table r.ends) in
    whole text r.some ∙ ap (λ xs. xs ++ last_of text ∷ []) front ∙ amount_text_parts cents (unsigned_abs cents) (last_of text) refl last
  where
    whole : (xs : List ℕ) → 0 < length xs → xs ≡ front_of xs ++ last_of xs ∷ []
    whole xs h =
        let one_more : length xs - 1 + 1 ≡ length xs = omega arith in
        sym (take-length xs) ∙ ap (λ k. take k xs) (sym one_more) ∙ take_more xs (length xs - 1) 0 (omega arith)
