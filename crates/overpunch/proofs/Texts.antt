-- Texts of digits: their value place by place, its bound, and where the first other byte stands.
use Rattle.std.proofs.Common.{◌≡◌, ℕ, suc, ◌+◌, ◌-◌, ◌*◌, ◌^◌, ◌<◌, ◌≤◌, Bool, true, false, not, nat_lt, refl, List, [], ◌∷◌, length, take, get_or, Some, None, arith}
use Rattle.std.proofs.Math.Nat.{pow-le-pow_right}
use Rattle.std.proofs.lemmas.List.{take_more, map-append, length-map, get_or-take, length-take-le}
use Rattle.std.specs.List.{AllByRecursion, position, position_or_len}
use Rattle.std.proofs.lemmas.List.Sums.{fails_before_first, position_or_len_is}
use Rattle.std.proofs.lemmas.Bool.Decides.{nat_tests}
use Rattle.std.specs.Char.{IsAsciiDigit, is_ascii_digit}
use Rattle.overpunch.specs.Number.{digits_in, number_value, first_other}
use Rattle.overpunch.proofs.Places.{places_value_push, places_value-lt}

-- each byte is a digit
abbrev pub AreDigits : List ℕ → Type 0
AreDigits text = (k : ℕ) → k < length text → IsAsciiDigit (get_or text k 0)

-- one more byte of the text
pub number_value_more : (text : List ℕ) (i : ℕ) → i < length text → number_value (take (i + 1) text) ≡ number_value (take i text) * 10 + (get_or text i 0 - 48)
number_value_more text i h =
    rw (take_more text i 0 h, map-append (λ byte. byte - 48) (take i text) (get_or text i 0 ∷ []))
    (places_value_push (digits_in (take i text)) (get_or text i 0 - 48))

pub digits_below : (text : List ℕ) → AreDigits text → AllByRecursion (λ d. d < 10) (digits_in text)
digits_below [] h = tt
digits_below (x ∷ xs) h =
    let here : IsAsciiDigit x = h 0 (omega arith) in
    (omega arith, digits_below xs (λ k q. h (suc k) (omega arith)))

-- this many digits spell less than ten to that power
pub number_value-lt : (text : List ℕ) → AreDigits text → number_value text < 10 ^ length text
number_value-lt text h = rw (← length-map text (λ byte. byte - 48)) (places_value-lt (digits_in text) (digits_below text h))

-- a byte that is no other is a digit
pub digit_from_test : (byte : ℕ) → not (is_ascii_digit byte) ≡ false → IsAsciiDigit byte
digit_from_test byte e = grind (arith, nat_tests)

-- what the test takes is a digit
pub digit_when : (byte : ℕ) → is_ascii_digit byte ≡ true → IsAsciiDigit byte
digit_when byte e = grind (arith, nat_tests)

-- where no byte is another, each is a digit
pub digits_from_none : (text : List ℕ) → first_other text ≡ None → AreDigits text
digits_from_none text none = λ k h.
    let past : length text ≤ position_or_len (λ byte. not (is_ascii_digit byte)) text = past_from_none (λ byte. not (is_ascii_digit byte)) text none in
    digit_from_test (get_or text k 0) (fails_before_first (λ byte. not (is_ascii_digit byte)) text k 0 (omega arith))
  where
    past_from_none : (p : ℕ → Bool) (xs : List ℕ) → position p xs ≡ None → length xs ≤ position_or_len p xs
    past_from_none p xs e = grind (arith, nat_tests)

-- each byte in front of a place is a digit
abbrev pub AreDigitsUpTo : ℕ → List ℕ → Type 0
AreDigitsUpTo place text = (k : ℕ) → k < place → IsAsciiDigit (get_or text k 0)

-- this many digits at the front spell less than ten to that power
pub number_value_front-lt : (text : List ℕ) (i k : ℕ) → AreDigitsUpTo i text → i ≤ length text → i ≤ k → number_value (take i text) < 10 ^ k
number_value_front-lt text i k h within below =
    let long : length (take i text) ≡ i = length-take-le i text within in
    let digits : AreDigits (take i text) = λ j q. (let lt : j < i = omega arith in rw (get_or-take i text j 0 lt) (h j lt)) in
    let power : 10 ^ i ≤ 10 ^ k = pow-le-pow_right (omega arith) below in
    let bound : number_value (take i text) < 10 ^ i = rw long at (number_value-lt (take i text) digits) in
    omega arith

-- one digit more
pub digits_more : (text : List ℕ) (place : ℕ) → AreDigitsUpTo place text → IsAsciiDigit (get_or text place 0) → AreDigitsUpTo (place + 1) text
digits_more text place before here = λ k q. last_or_before k (nat_lt k place) refl q
  where
    last_or_before : (k : ℕ) (b : Bool) → nat_lt k place ≡ b → k < place + 1 → IsAsciiDigit (get_or text k 0)
    last_or_before k true e q = before k (grind (arith, nat_tests))
    last_or_before k false e q = (let same : k ≡ place = grind (arith, nat_tests) in rw same here)

-- a digit is no other byte
digit_passes : (byte : ℕ) → IsAsciiDigit byte → not (is_ascii_digit byte) ≡ false
digit_passes byte h = grind (arith, nat_tests)

-- the place of the first byte that is no digit
pub other_at : (text : List ℕ) (place : ℕ) → AreDigitsUpTo place text → place < length text → not (is_ascii_digit (get_or text place 0)) ≡ true → first_other text ≡ Some place
other_at text place before within other =
    some_from (λ byte. not (is_ascii_digit byte)) text place (position_or_len_is (λ byte. not (is_ascii_digit byte)) text place 0 (omega arith) (λ k q. digit_passes (get_or text k 0) (before k q)) (λ _. other)) within
  where
    some_from : (p : ℕ → Bool) (xs : List ℕ) (i : ℕ) → position_or_len p xs ≡ i → i < length xs → position p xs ≡ Some i
    some_from p xs i e within = grind (arith, nat_tests)

-- no byte is another where each is a digit
pub no_other : (text : List ℕ) → AreDigitsUpTo (length text) text → first_other text ≡ None
no_other text before =
    none_from (λ byte. not (is_ascii_digit byte)) text (position_or_len_is (λ byte. not (is_ascii_digit byte)) text (length text) 0 (omega arith) (λ k q. digit_passes (get_or text k 0) (before k q)) (λ q. never (length text) q _))
  where
    never : (n : ℕ) → n < n → (b : Bool) → b ≡ true
    never n q b = grind (arith, nat_tests)

    none_from : (p : ℕ → Bool) (xs : List ℕ) → position_or_len p xs ≡ length xs → position p xs ≡ None
    none_from p xs e = grind (arith, nat_tests)
