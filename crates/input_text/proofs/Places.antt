-- The value of digits, one more digit at the end.
use Rattle.std.proofs.Common.{◌≡◌, ℕ, suc, ◌+◌, ◌-◌, ◌*◌, ◌^◌, ◌<◌, ◌≤◌, true, List, [], ◌∷◌, ◌++◌, length, get_or, ap, ◌∙◌, add-one, lit<, arith}
use Rattle.std.proofs.lemmas.List.{length-append}
use Rattle.std.proofs.Math.Nat.{pow-suc, pow-le-pow_right}
use Rattle.std.specs.List.{list_all}
use Rattle.std.proofs.lemmas.Bool.Decides.{nat_tests}
use Rattle.std.proofs.lemmas.List.Sums.{AllPass-from_list_all}
use Rattle.input_text.specs.Decimals.{decimal_value, is_digit}

shift : (d p v e : ℕ) → d * (p * 10) + (v * 10 + e) ≡ (d * p + v) * 10 + e
shift d p v e = grind arith

pub decimal_value-push : (digits : List ℕ) (digit : ℕ) → decimal_value (digits ++ digit ∷ []) ≡ decimal_value digits * 10 + (digit - 48)
decimal_value-push [] digit = grind arith
decimal_value-push (d ∷ ds) digit =
    let longer : length (ds ++ digit ∷ []) ≡ suc (length ds) = omega (arith, length-append ds (digit ∷ [])) in
    let power : 10 ^ length (ds ++ digit ∷ []) ≡ 10 ^ length ds * 10 = ap (λ n. 10 ^ n) longer ∙ pow-suc 10 (length ds) in
    let inner = decimal_value-push ds digit in
    rw (power, inner) (shift (d - 48) (10 ^ length ds) (decimal_value ds) (digit - 48))

-- each byte of a number is a digit
pub digit_at : (digits : List ℕ) (i : ℕ) → list_all is_digit digits ≡ true → i < length digits → (48 ≤ get_or digits i 0) × (get_or digits i 0 ≤ 57)
digit_at digits i all lt =
    let here : is_digit (get_or digits i 0) ≡ true = AllPass-from_list_all is_digit digits all i 0 lt in
    grind (arith, nat_tests)

-- a digit more keeps the value below the power of ten
pub below_more_places : (v i d : ℕ) → v < 10 ^ i → d ≤ 9 → v * 10 + d < 10 ^ (i + 1)
below_more_places v i d lt small =
    let power : 10 ^ (i + 1) ≡ 10 ^ i * 10 = rw add-one (pow-suc 10 i) in
    omega arith

-- eighteen places fit a 64-bit number
pub few_places : (i : ℕ) → i < 18 → 10 ^ (i + 1) ≤ 10 ^ 18
few_places i lt = let le : i + 1 ≤ 18 = omega arith in pow-le-pow_right (lit< tt) le
