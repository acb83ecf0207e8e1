-- Texts of digits hold no separators, and how long they are.
use Rattle.std.proofs.Common.{◌≡◌, ℕ, ℤ, pos, zero, suc, ◌+◌, ◌/◌, ◌%◌, ◌<◌, ◌≤◌, Bool, true, false, cond, not, ◌&&◌, List, [], ◌∷◌, ◌++◌, length, map, slice_index, nat_eq, nat_lt, Result, Ok, Err, codes, refl, arith}
use Rattle.std.proofs.lemmas.Int.Digits.{all_below_base_digits_of}
use Rattle.std.proofs.lemmas.Bool.Decides.{nat_tests}
use Rattle.std.specs.List.{AllByRecursion}
use Rattle.std.specs.Int.Digits.{digits_of}
use Rattle.std.specs.Char.{IsAsciiDigit}
use Rattle.overpunch.specs.declared.number.NumberFault.TheVariants.{Empty as NoDigit, TooLong as TooManyDigits}
use Rattle.overpunch.specs.declared.amount.AmountFault.TheVariants.{Empty as NoByte, TooLong as TooManyBytes}
use Rattle.overpunch.specs.Number.{spelled_number, or_bad_digit, number_of, leading_digits, number_text}
use Rattle.overpunch.specs.Amount.{signed_number, front_of, last_of, last_digit_of, amount_of, amount_text}
use Rattle.overpunch.specs.Number.{first_other}
use Rattle.d0_segments.specs.Separators.{is_separator, is_plain}
use Rattle.claim_profile.specs.Authorization.{Authorization, padded_number, authorization_text}
use Rattle.overpunch.proofs.OwnNumbers.{all_push}
use Rattle.claim_profile.proofs.PaddedNumbers.{padded_digits}

-- a digit is no separator
digit_plain : (byte : ℕ) → IsAsciiDigit byte → is_separator byte ≡ false
digit_plain byte d = grind (arith, nat_tests)

pub digits_plain : (text : List ℕ) → AllByRecursion IsAsciiDigit text → is_plain text ≡ true
digits_plain [] h = refl
digits_plain (b ∷ bs) h = rw (digit_plain b h.0, digits_plain bs h.1) refl

pub plain-append : (xs ys : List ℕ) → is_plain xs ≡ true → is_plain ys ≡ true → is_plain (xs ++ ys) ≡ true
plain-append [] ys h k = k
plain-append (x ∷ xs) ys h k = by_test (not (is_separator x)) h (λ front. plain-append xs ys front k)
  where
    by_test : (b : Bool) → (b && is_plain xs) ≡ true → (is_plain xs ≡ true → is_plain (xs ++ ys) ≡ true) → (b && is_plain (xs ++ ys)) ≡ true
    by_test true h rest = rest h
    by_test false h rest = absurd cc

-- the digits of a number as bytes
leading_are_digits : (n : ℕ) → AllByRecursion IsAsciiDigit (leading_digits n)
leading_are_digits n = as_bytes (digits_of 10 n) (all_below_base_digits_of 10 n (omega arith))
  where
    as_bytes : (ds : List ℕ) → AllByRecursion (λ d. d < 10) ds → AllByRecursion IsAsciiDigit (map (λ d. 48 + d) ds)
    as_bytes [] h = tt
    as_bytes (d ∷ ds) h = ((omega arith, omega (arith, h.0)), as_bytes ds h.1)

pub number_plain : (n : ℕ) → is_plain (number_text n) ≡ true
unfolding number_text
number_plain n = digits_plain (number_text n) (all_push (leading_digits (n / 10)) (48 + n % 10) (leading_are_digits (n / 10)) (omega arith, omega arith))

pub authorization_plain : (a : Authorization) → is_plain (authorization_text a) ≡ true
authorization_plain a =
    plain-append (padded_number 4 a.payer) (padded_number 12 a.serial) (digits_plain (padded_number 4 a.payer) (padded_digits 4 a.payer)) (digits_plain (padded_number 12 a.serial) (padded_digits 12 a.serial))

-- the last byte of an amount that is not negative
abbrev positive_digits : List ℕ
positive_digits = codes "{ABCDEFGHI"

signed_plain : (d : ℕ) → d < 10 → is_separator (slice_index positive_digits d) ≡ false
signed_plain zero h = refl
signed_plain (suc zero) h = refl
signed_plain (suc (suc zero)) h = refl
signed_plain (suc (suc (suc zero))) h = refl
signed_plain (suc (suc (suc (suc zero)))) h = refl
signed_plain (suc (suc (suc (suc (suc zero))))) h = refl
signed_plain (suc (suc (suc (suc (suc (suc zero)))))) h = refl
signed_plain (suc (suc (suc (suc (suc (suc (suc zero))))))) h = refl
signed_plain (suc (suc (suc (suc (suc (suc (suc (suc zero)))))))) h = refl
signed_plain (suc (suc (suc (suc (suc (suc (suc (suc (suc zero))))))))) h = refl
signed_plain (suc (suc (suc (suc (suc (suc (suc (suc (suc (suc d)))))))))) h = absurd (omega arith)

pub amount_plain : (n : ℕ) → is_plain (amount_text (pos n)) ≡ true
unfolding amount_text
amount_plain n =
    let last : is_separator (slice_index positive_digits (n % 10)) ≡ false = signed_plain (n % 10) (omega arith) in
    plain-append (leading_digits (n / 10)) (slice_index positive_digits (n % 10) ∷ []) (digits_plain (leading_digits (n / 10)) (leading_are_digits (n / 10))) (rw last refl)

-- a text that reads has a byte, and no more than there is room for
pub record Fits (room : ℕ) (text : List ℕ) : Type 0 where
  pub some : 0 < length text
  pub few : length text ≤ room

some_from : (n : ℕ) → nat_eq n 0 ≡ false → 0 < n
some_from n e = grind (arith, nat_tests)

few_from : (m n : ℕ) → nat_lt m n ≡ false → n ≤ m
few_from m n e = grind (arith, nat_tests)

tested : {E : Type 0} {A : Type 0} (empty long : Bool) (short_fault long_fault : E) (rest : Result A E) (a : A) → cond empty (Err short_fault) (cond long (Err long_fault) rest) ≡ Ok a → (empty ≡ false) × (long ≡ false)
tested true long short_fault long_fault rest a e = absurd cc
tested false true short_fault long_fault rest a e = absurd cc
tested false false short_fault long_fault rest a e = (refl, refl)

pub number_fits : (digits : ℕ) (text : List ℕ) (n : ℕ) → number_of digits text ≡ Ok n → Fits digits text
unfolding number_of
number_fits digits text n e =
    let t = tested (nat_eq (length text) 0) (nat_lt digits (length text)) NoDigit TooManyDigits (or_bad_digit (spelled_number text)) n e in
    record { some = some_from (length text) t.0; few = few_from digits (length text) t.1 }

pub amount_fits : (text : List ℕ) (cents : ℤ) → amount_of text ≡ Ok cents → Fits 8 text
unfolding amount_of
amount_fits text cents e =
    let t = tested (nat_eq (length text) 0) (nat_lt 8 (length text)) NoByte TooManyBytes (signed_number (front_of text) (first_other (front_of text)) (last_digit_of (last_of text))) cents e in
    record { some = some_from (length text) t.0; few = few_from 8 (length text) t.1 }
