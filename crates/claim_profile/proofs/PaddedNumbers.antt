-- Numbers in a fixed count of digits are read back, and so are authorizations.
use Rattle.std.proofs.Common.{◌≡◌, ℕ, zero, suc, ◌+◌, ◌-◌, ◌*◌, ◌/◌, ◌%◌, ◌^◌, ◌<◌, ◌≤◌, true, false, [], ◌∷◌, length, nat_eq, nat_le, nat_lt, Some, Ok, refl, arith, length-append}
use Rattle.std.proofs.Math.Nat.{pow-suc}
use Rattle.std.proofs.lemmas.Nat.{div_below}
use Rattle.std.proofs.lemmas.List.{map-append, take_at, drop_at}
use Rattle.std.proofs.lemmas.Bool.Decides.{nat_tests}
use Rattle.std.specs.List.{AllByRecursion}
use Rattle.std.specs.Char.{IsAsciiDigit}
use Rattle.overpunch.specs.Number.{digits_in, number_value, number_of}
use Rattle.claim_profile.specs.Authorization.{Authorization, IsAuthorization, padded_number, authorization_text, authorization_with, authorization_of}
use Rattle.claim_profile.proofs.AuthorizationLemmas.{length-padded_number}
use Rattle.overpunch.proofs.Places.{places_value_push}
use Rattle.overpunch.proofs.OwnNumbers.{all_push, none_from_all}

-- the bytes of a padded number are digits
pub padded_digits : (k n : ℕ) → AllByRecursion IsAsciiDigit (padded_number k n)
unfolding padded_number
padded_digits zero n = tt
padded_digits (suc k) n = all_push (padded_number k (n / 10)) (48 + n % 10) (padded_digits k (n / 10)) (omega arith, omega arith)

-- they spell it, where there is room for it
padded_value : (k n : ℕ) → n < 10 ^ k → number_value (padded_number k n) ≡ n
unfolding padded_number
padded_value zero n below = omega arith
padded_value (suc k) n below =
    let front = padded_number k (n / 10) in
    let last : (48 + n % 10) - 48 ≡ n % 10 = omega arith in
    let room : n < 10 ^ k * 10 = rw (← pow-suc 10 k) below in
    rw (map-append (λ byte. byte - 48) front ((48 + n % 10) ∷ []), last, places_value_push (digits_in front) (n % 10), padded_value k (n / 10) (div_below n 10 (10 ^ k) (omega arith) room))
    (omega arith)

pub padded_reads : (k n : ℕ) → 0 < k → n < 10 ^ k → number_of k (padded_number k n) ≡ Ok n
unfolding number_of
padded_reads k n some below =
    let text = padded_number k n in
    let long = length-padded_number k n in
    rw (empty_no (length text) (omega arith), long_no k (length text) (omega arith), none_from_all text (padded_digits k n), padded_value k n below) refl
  where
    empty_no : (m : ℕ) → 0 < m → nat_eq m 0 ≡ false
    empty_no m h = grind (arith, nat_tests)

    long_no : (m l : ℕ) → l ≤ m → nat_lt m l ≡ false
    long_no m l h = grind (arith, nat_tests)

-- an authorization is what its sixteen digits spell
pub length-authorization_text : (a : Authorization) → length (authorization_text a) ≡ 16
length-authorization_text a =
    omega (arith, length-append (padded_number 4 a.payer) (padded_number 12 a.serial), length-padded_number 4 a.payer, length-padded_number 12 a.serial)

in_range : (a : Authorization) → IsAuthorization a.payer a.serial → authorization_with a.payer a.serial ≡ Some a
in_range a is =
    rw (le_yes 1 a.payer is.0, le_yes a.payer 9999 is.1, le_yes 1 a.serial is.2, le_yes a.serial 999999999999 is.3) refl
  where
    le_yes : (m n : ℕ) → m ≤ n → nat_le m n ≡ true
    le_yes m n h = grind (arith, nat_tests)

pub authorization_reads : (a : Authorization) → IsAuthorization a.payer a.serial → authorization_of (authorization_text a) ≡ Some a
unfolding authorization_of
authorization_reads a is =
    let four : length (padded_number 4 a.payer) ≡ 4 = length-padded_number 4 a.payer in
    rw (
      length-authorization_text a,
      take_at (padded_number 4 a.payer) (padded_number 12 a.serial) 4 four,
      drop_at (padded_number 4 a.payer) (padded_number 12 a.serial) 4 four,
      padded_reads 4 a.payer (omega arith) (omega (arith, is.1)),
      padded_reads 12 a.serial (omega arith) (omega (arith, is.3)),
    )
    (in_range a is)
