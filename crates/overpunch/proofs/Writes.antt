-- Texts written from the front: one or two more bytes after what stands there.
use Rattle.std.proofs.Common.{◌≡◌, ℕ, ◌+◌, ◌/◌, ◌%◌, ◌<◌, ◌≤◌, List, [], ◌∷◌, ◌++◌, length, take, drop, set, refl, sym, ◌∙◌, ap, arith, add-one, drop-cons, append_assoc, length-append}
use Rattle.std.proofs.lemmas.Grind.{common_steps}
use Rattle.std.proofs.lemmas.List.{map-append, length-map}
use Rattle.std.proofs.lemmas.Int.Digits.{digits_of_step, length-digits_of_step}
use Rattle.std.specs.Int.Digits.{digits_of}
use Rattle.overpunch.specs.Number.{leading_digits}

put_first : (ys : List ℕ) (p d : ℕ) → p < length ys → set (drop p ys) 0 d ≡ d ∷ drop (p + 1) ys
put_first ys p d h = rw (add-one, drop-cons ys p 0) refl

put_at_end : (xs zs : List ℕ) (d : ℕ) → set (xs ++ zs) (length xs) d ≡ xs ++ set zs 0 d
put_at_end [] zs d = refl
put_at_end (x ∷ xs) zs d = ap (λ t. x ∷ t) (put_at_end xs zs d)

-- a byte put after xs
pub put_behind : (xs ys : List ℕ) (p d : ℕ) → p ≡ length xs → p < length ys → set (xs ++ drop p ys) p d ≡ (xs ++ d ∷ []) ++ drop (p + 1) ys
put_behind xs ys p d e h =
    ap (λ i. set (xs ++ drop p ys) i d) e ∙ put_at_end xs (drop p ys) d
    ∙ ap (λ t. xs ++ t) (put_first ys p d h) ∙ sym (append_assoc xs (d ∷ []) (drop (p + 1) ys))

-- what then stands in front, and what after
pub put_behind_front : (xs ys : List ℕ) (p d : ℕ) → p ≡ length xs → p < length ys → take (p + 1) (set (xs ++ drop p ys) p d) ≡ xs ++ d ∷ []
put_behind_front xs ys p d e h = rw (put_behind xs ys p d e h) (grind (arith, common_steps))

pub leading_digits_step : (n : ℕ) → 0 < n → leading_digits n ≡ leading_digits (n / 10) ++ (48 + n % 10) ∷ []
leading_digits_step n h = rw (digits_of_step 10 n (omega arith) h) (map-append (λ digit. 48 + digit) (digits_of 10 (n / 10)) (n % 10 ∷ []))

pub length-leading_digits : (n : ℕ) → length (leading_digits n) ≡ length (digits_of 10 n)
length-leading_digits n = length-map (digits_of 10 n) (λ digit. 48 + digit)

-- two bytes put after xs
pub put_pair_behind : (xs ys : List ℕ) (p d e : ℕ) → p ≡ length xs → p + 1 < length ys → set (set (xs ++ drop p ys) p d) (p + 1) e ≡ (xs ++ d ∷ e ∷ []) ++ drop (p + 2) ys
put_pair_behind xs ys p d e same h =
    let long : p + 1 ≡ length (xs ++ d ∷ []) = rw (length-append xs (d ∷ []), same) refl in
    let next : p + 1 + 1 ≡ p + 2 = omega arith in
    ap (λ t. set t (p + 1) e) (put_behind xs ys p d same (omega arith))
    ∙ put_behind (xs ++ d ∷ []) ys (p + 1) e long h
    ∙ ap (λ t. t ++ drop (p + 1 + 1) ys) (append_assoc xs (d ∷ []) (e ∷ []))
    ∙ ap (λ i. (xs ++ d ∷ e ∷ []) ++ drop i ys) next

-- a number of two digits or more by its last two
pub leading_digits_pair : (n : ℕ) → 10 ≤ n → leading_digits n ≡ leading_digits (n / 100) ++ (48 + n % 100 / 10) ∷ (48 + n % 100 % 10) ∷ []
leading_digits_pair n h =
    let front : n / 10 / 10 ≡ n / 100 = omega arith in
    let tens : n / 10 % 10 ≡ n % 100 / 10 = omega arith in
    let ones : n % 10 ≡ n % 100 % 10 = omega arith in
    leading_digits_step n (omega arith)
    ∙ ap (λ t. t ++ (48 + n % 10) ∷ []) (leading_digits_step (n / 10) (omega arith))
    ∙ append_assoc (leading_digits (n / 10 / 10)) ((48 + n / 10 % 10) ∷ []) ((48 + n % 10) ∷ [])
    ∙ rw (front, tens, ones) refl

pub length-digits_of_pair : (n : ℕ) → 10 ≤ n → length (digits_of 10 n) ≡ length (digits_of 10 (n / 100)) + 2
length-digits_of_pair n h =
    let front : n / 10 / 10 ≡ n / 100 = omega arith in
    let second : length (digits_of 10 (n / 10)) ≡ length (digits_of 10 (n / 100)) + 1 = rw front at (length-digits_of_step 10 (n / 10) (omega arith) (omega arith)) in
    omega (arith, length-digits_of_step 10 n (omega arith) (omega arith))

-- a number of one digit
pub length-digits_of_one : (n : ℕ) → 0 < n → n < 10 → length (digits_of 10 n) ≡ 1
length-digits_of_one n some below =
    let front : n / 10 ≡ 0 = omega arith in
    length-digits_of_step 10 n (omega arith) some ∙ rw front refl

pub leading_digits_one : (n : ℕ) → 0 < n → n < 10 → leading_digits n ≡ (48 + n) ∷ []
leading_digits_one n some below =
    let front : n / 10 ≡ 0 = omega arith in
    let ones : n % 10 ≡ n = omega arith in
    leading_digits_step n some ∙ rw (front, ones) refl
