-- Numbers and their own texts: what a text that reads has, and that the own text reads and is no longer.
use Rattle.std.proofs.Common.{◌≡◌, ℕ, zero, suc, ◌+◌, ◌-◌, ◌*◌, ◌/◌, ◌%◌, ◌^◌, ◌<◌, ◌≤◌, Bool, true, false, cond, not, List, [], ◌∷◌, ◌++◌, length, map, nat_eq, nat_lt, Option, Some, None, Ok, Err, refl, arith, length-append}
use Rattle.std.proofs.Math.Nat.{pow-suc, pow-le-pow_right}
use Rattle.std.proofs.lemmas.Nat.{div_below}
use Rattle.std.proofs.lemmas.List.{map-append}
use Rattle.std.proofs.lemmas.Bool.Decides.{nat_tests}
use Rattle.std.proofs.lemmas.Int.Digits.{length-digits_of-le, all_below_base_digits_of}
use Rattle.std.specs.List.{AllByRecursion, prefix_len}
use Rattle.std.specs.Char.{IsAsciiDigit, is_ascii_digit}
use Rattle.std.specs.Int.Digits.{digits_of}
use Rattle.overpunch.specs.declared.number.NumberFault.TheVariants.{Empty, TooLong}
use Rattle.overpunch.specs.Number.{digits_in, number_value, first_other, spelled_from, or_bad_digit, number_of, leading_digits, number_text}
use Rattle.overpunch.proofs.Places.{places_value_push, places_value-digits_of}
use Rattle.overpunch.proofs.Texts.{number_value-lt, digits_from_none}
use Rattle.overpunch.proofs.Writes.{length-leading_digits}

-- what a text that reads as a number has
pub record IsRead (digits : ℕ) (text : List ℕ) (number : ℕ) : Type 0 where
  pub some : 0 < length text
  pub short : length text ≤ digits
  pub alone : first_other text ≡ None
  pub value : number_value text ≡ number

passed : (text : List ℕ) (number : ℕ) (empty long : Bool) (other : Option ℕ) → cond empty (Err Empty) (cond long (Err TooLong) (or_bad_digit (spelled_from text other))) ≡ Ok number → (empty ≡ false) × (long ≡ false) × (other ≡ None) × (number_value text ≡ number)
passed text number true long other e = cc
passed text number false true other e = cc
passed text number false false (Some place) e = cc
passed text number false false None e = (refl, refl, refl, cc)

pub number_is_read : (digits : ℕ) (text : List ℕ) (number : ℕ) → number_of digits text ≡ Ok number → IsRead digits text number
unfolding number_of
number_is_read digits text number e =
    let tests = passed text number (nat_eq (length text) 0) (nat_lt digits (length text)) (first_other text) e in
    record { some = some_from (length text) tests.0; short = short_from digits (length text) tests.1; alone = tests.2; value = tests.3 }
  where
    some_from : (n : ℕ) → nat_eq n 0 ≡ false → 0 < n
    some_from n e = grind (arith, nat_tests)

    short_from : (m n : ℕ) → nat_lt m n ≡ false → n ≤ m
    short_from m n e = grind (arith, nat_tests)

-- this many digits spell a number below that power of ten
pub read_below : (digits : ℕ) (text : List ℕ) (number : ℕ) → IsRead digits text number → number < 10 ^ length text
read_below digits text number r = omega (arith, number_value-lt text (digits_from_none text r.alone), r.value)

-- a number below a power of ten has as many digits before the last, less one
pub few_leading : (k n : ℕ) → n < 10 ^ suc k → length (digits_of 10 (n / 10)) ≤ k
few_leading k n h =
    let below : n < 10 ^ k * 10 = rw (← pow-suc 10 k) h in
    length-digits_of-le 10 k (n / 10) (omega arith) (div_below n 10 (10 ^ k) (omega arith) below)

pub few_digits : (len n : ℕ) → 0 < len → n < 10 ^ len → length (digits_of 10 (n / 10)) + 1 ≤ len
few_digits zero n some h = absurd (omega arith)
few_digits (suc k) n some h = omega (arith, few_leading k n h)

pub length-number_text : (n : ℕ) → length (number_text n) ≡ length (digits_of 10 (n / 10)) + 1
unfolding number_text
length-number_text n = rw (length-append (leading_digits (n / 10)) ((48 + n % 10) ∷ []), length-leading_digits (n / 10)) refl

-- digits as bytes are digits
digits_are_ascii : (ds : List ℕ) → AllByRecursion (λ d. d < 10) ds → AllByRecursion IsAsciiDigit (map (λ d. 48 + d) ds)
digits_are_ascii [] h = tt
digits_are_ascii (d ∷ ds) h = ((omega arith, omega (arith, h.0)), digits_are_ascii ds h.1)

digits_again : (ds : List ℕ) → digits_in (map (λ d. 48 + d) ds) ≡ ds
digits_again [] = refl
digits_again (d ∷ ds) = let e : (48 + d) - 48 ≡ d = omega arith in rw (e, digits_again ds) refl

pub digits_in-leading_digits : (n : ℕ) → digits_in (leading_digits n) ≡ digits_of 10 n
digits_in-leading_digits n = digits_again (digits_of 10 n)

pub all_push : (text : List ℕ) (byte : ℕ) → AllByRecursion IsAsciiDigit text → IsAsciiDigit byte → AllByRecursion IsAsciiDigit (text ++ byte ∷ [])
all_push [] byte h last = (last, tt)
all_push (x ∷ xs) byte h last = (h.0, all_push xs byte h.1 last)

-- digits alone have no other byte
pub none_from_all : (text : List ℕ) → AllByRecursion IsAsciiDigit text → first_other text ≡ None
none_from_all text h = rw (whole text h) (past (length text))
  where
    digit_test : (byte : ℕ) → IsAsciiDigit byte → not (not (is_ascii_digit byte)) ≡ true
    digit_test byte d = grind (arith, nat_tests)

    whole : (xs : List ℕ) → AllByRecursion IsAsciiDigit xs → prefix_len (λ x. not (not (is_ascii_digit x))) xs ≡ length xs
    whole [] a = refl
    whole (x ∷ xs) a = rw (digit_test x a.0, whole xs a.1) (omega arith)

    past : (n : ℕ) → cond (nat_lt n n) (Some n) None ≡ None
    past n = grind (arith, nat_tests)

pub leading_alone : (n : ℕ) → first_other (leading_digits n) ≡ None
leading_alone n = none_from_all (leading_digits n) (digits_are_ascii (digits_of 10 n) (all_below_base_digits_of 10 n (omega arith)))

pub own_alone : (n : ℕ) → first_other (number_text n) ≡ None
unfolding number_text
own_alone n =
    none_from_all (number_text n)
    (all_push (leading_digits (n / 10)) (48 + n % 10) (digits_are_ascii (digits_of 10 (n / 10)) (all_below_base_digits_of 10 (n / 10) (omega arith))) (omega arith, omega arith))

pub leading_value : (n : ℕ) → number_value (leading_digits n) ≡ n
leading_value n = rw (digits_in-leading_digits n) (places_value-digits_of n)

pub own_value : (n : ℕ) → number_value (number_text n) ≡ n
unfolding number_text
own_value n =
    let last : (48 + n % 10) - 48 ≡ n % 10 = omega arith in
    rw (map-append (λ byte. byte - 48) (leading_digits (n / 10)) ((48 + n % 10) ∷ []), last, digits_in-leading_digits (n / 10), places_value_push (digits_of 10 (n / 10)) (n % 10), places_value-digits_of (n / 10))
    (omega arith)

-- a number's own text reads back
pub own_reads : (digits n : ℕ) → 1 ≤ digits → n < 10 ^ digits → number_of digits (number_text n) ≡ Ok n
unfolding number_of
own_reads digits n some below =
    let len = length-number_text n in
    let room : length (digits_of 10 (n / 10)) + 1 ≤ digits = few_digits digits n (omega arith) below in
    rw (empty_no (length (number_text n)) (omega arith), long_no digits (length (number_text n)) (omega arith), own_alone n, own_value n) refl
  where
    empty_no : (k : ℕ) → 0 < k → nat_eq k 0 ≡ false
    empty_no k h = grind (arith, nat_tests)

    long_no : (m k : ℕ) → k ≤ m → nat_lt m k ≡ false
    long_no m k h = grind (arith, nat_tests)

-- no text of a number is shorter than its own
pub own_shortest : (digits : ℕ) (text : List ℕ) (n : ℕ) → number_of digits text ≡ Ok n → length (number_text n) ≤ length text
own_shortest digits text n e =
    let r = number_is_read digits text n e in
    omega (arith, length-number_text n, few_digits (length text) n r.some (read_below digits text n r))

pub read_in_range : (digits : ℕ) (text : List ℕ) (n : ℕ) → number_of digits text ≡ Ok n → n < 10 ^ digits
read_in_range digits text n e =
    let r = number_is_read digits text n e in
    let power : 10 ^ length text ≤ 10 ^ digits = pow-le-pow_right (omega arith) r.short in
    omega (arith, read_below digits text n r)
