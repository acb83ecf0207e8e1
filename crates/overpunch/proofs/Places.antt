-- The sum over places: one more digit, its bound, and that a number's digits sum to it.
use Rattle.std.proofs.Common.{◌≡◌, ℕ, ◌+◌, ◌*◌, ◌^◌, ◌<◌, ◌≤◌, List, [], ◌∷◌, ◌++◌, length, ◌∙◌, arith, add-one, length-append}
use Rattle.std.proofs.Math.Nat.{pow-suc, mul-le-mul_right}
use Rattle.std.specs.List.{AllByRecursion}
use Rattle.std.specs.Int.Digits.{digits_of, number_from_digits_after}
use Rattle.std.proofs.lemmas.Int.Digits.{number_digits_of}
use Rattle.overpunch.specs.Number.{places_value}

-- ten to the power of one more
pub tenfold : (n : ℕ) → 10 ^ (n + 1) ≡ 10 ^ n * 10
tenfold n = rw add-one (pow-suc 10 n)

-- one more digit at the end
pub places_value_push : (ds : List ℕ) (d : ℕ) → places_value (ds ++ d ∷ []) ≡ places_value ds * 10 + d
places_value_push [] d = omega arith
places_value_push (x ∷ xs) d =
    rw (places_value_push xs d, length-append xs (d ∷ []), tenfold (length xs)) (omega arith)

-- digits sum to less than ten to the power of their count
pub places_value-lt : (ds : List ℕ) → AllByRecursion (λ d. d < 10) ds → places_value ds < 10 ^ length ds
places_value-lt [] h = omega arith
places_value-lt (x ∷ xs) h =
    let rest : places_value xs < 10 ^ length xs = places_value-lt xs h.1 in
    let front : x * 10 ^ length xs ≤ 9 * 10 ^ length xs = mul-le-mul_right (10 ^ length xs) (omega (arith, h.0)) in
    omega (arith, pow-suc 10 (length xs))

-- the same sum from the left
from_left : (n : ℕ) (ds : List ℕ) → number_from_digits_after 10 n ds ≡ n * 10 ^ length ds + places_value ds
from_left n [] = omega arith
from_left n (x ∷ xs) = from_left (n * 10 + x) xs ∙ rw (pow-suc 10 (length xs)) (omega arith)

-- a number's digits sum to it
pub places_value-digits_of : (n : ℕ) → places_value (digits_of 10 n) ≡ n
places_value-digits_of n = omega (arith, from_left 0 (digits_of 10 n), number_digits_of 10 n (omega arith))
