-- Signed texts: their parts, their value and their bound.
use Rattle.std.proofs.Common.{◌≡◌, ℕ, zero, suc, ℤ, ◌+◌, ◌*◌, ◌/◌, ◌%◌, ◌≤◌, Bool, true, false, cond, Result, Err, List, [], ◌∷◌, ◌++◌, length, slice_index, nat_eq, nat_lt, Option, Some, None, Ok, refl, ◌∙◌, ap, arith, length-append}
use Rattle.std.proofs.lemmas.Grind.{common_steps}
use Rattle.std.proofs.lemmas.Bool.Decides.{nat_tests}
use Rattle.std.specs.Int.RustNames.{unsigned_abs}
use Rattle.overpunch.specs.declared.amount.Sign.{Sign}
use Rattle.overpunch.specs.declared.amount.Sign.TheVariants.{Positive, Negative}
use Rattle.overpunch.specs.declared.amount.AmountFault.{AmountFault}
use Rattle.overpunch.specs.declared.amount.AmountFault.TheVariants.{Empty, TooLong}
use Rattle.overpunch.specs.Number.{leading_digits, first_other, digits_in, number_value, spelled_number, spelled_from}
use Rattle.overpunch.specs.Amount.{signed_digits, sign_of, amount_text, signed, signed_number, front_of, last_of, last_digit_of, amount_of}
use Rattle.overpunch.proofs.Places.{places_value_push}

-- the sign changes no magnitude
pub unsigned_abs-signed : (sign : Sign) (n : ℕ) → unsigned_abs (signed sign n) ≡ n
unsigned_abs-signed Positive n = refl
unsigned_abs-signed Negative zero = refl
unsigned_abs-signed Negative (suc n) = refl

pub front_of_push : (front : List ℕ) (last : ℕ) → front_of (front ++ last ∷ []) ≡ front
front_of_push front last = grind (arith, common_steps)

pub last_of_push : (front : List ℕ) (last : ℕ) → last_of (front ++ last ∷ []) ≡ last
last_of_push front last = grind (arith, common_steps)

-- what two tests that fail leave
neither : (b c : Bool) (x y z : Result ℤ AmountFault) → b ≡ false → c ≡ false → cond b x (cond c y z) ≡ z
neither true c x y z p q = cc
neither false true x y z p q = cc
neither false false x y z p q = refl

-- a text of at most eight bytes by its front and its last byte
pub amount_of_push : (front : List ℕ) (last : ℕ) → length front ≤ 7 → amount_of (front ++ last ∷ []) ≡ signed_number front (first_other front) (last_digit_of last)
unfolding amount_of
amount_of_push front last short =
    let some : nat_eq (length (front ++ last ∷ [])) 0 ≡ false = rw (length-append front (last ∷ [])) (grind (arith, nat_tests)) in
    let fits : nat_lt 8 (length (front ++ last ∷ [])) ≡ false = rw (length-append front (last ∷ [])) (grind (arith, nat_tests)) in
    neither (nat_eq (length (front ++ last ∷ [])) 0) (nat_lt 8 (length (front ++ last ∷ []))) (Err Empty) (Err TooLong) (signed_number (front_of (front ++ last ∷ [])) (first_other (front_of (front ++ last ∷ []))) (last_digit_of (last_of (front ++ last ∷ [])))) some fits
    ∙ ap (λ (xs : List ℕ). signed_number xs (first_other xs) (last_digit_of (last_of (front ++ last ∷ [])))) (front_of_push front last)
    ∙ ap (λ (byte : ℕ). signed_number front (first_other front) (last_digit_of byte)) (last_of_push front last)

-- a front that is spelled has digits alone
spelled_is : (front : List ℕ) (other : Option ℕ) (tens : ℕ) → spelled_from front other ≡ Ok tens → (other ≡ None) × (number_value front ≡ tens)
spelled_is front None tens e = (refl, cc)
spelled_is front (Some place) tens e = cc

-- the amount of a front of digits and a last byte with a sign
pub amount_of_parts : (front : List ℕ) (last tens digit : ℕ) (sign : Sign) → length front ≤ 7 → spelled_number front ≡ Ok tens → last_digit_of last ≡ Some (sign, digit) → amount_of (front ++ last ∷ []) ≡ Ok (signed sign (tens * 10 + digit))
amount_of_parts front last tens digit sign short spelled ends =
    let parts = spelled_is front (first_other front) tens spelled in
    let value = places_value_push (digits_in front) digit in
    amount_of_push front last short ∙ rw (parts.0, ends, value, parts.1) refl

-- an amount's own text by its digits and its last byte
pub amount_text_parts : (cents : ℤ) (magnitude last : ℕ) → magnitude ≡ unsigned_abs cents → last ≡ slice_index (signed_digits (sign_of cents)) (magnitude % 10) → leading_digits (magnitude / 10) ++ last ∷ [] ≡ amount_text cents
unfolding amount_text
amount_text_parts cents magnitude last m l = rw (l, m) refl
