-- Numbers in a fixed count of digits.
use Rattle.std.proofs.Common.{◌≡◌, ℕ, zero, suc, ◌+◌, ◌-◌, ◌/◌, ◌%◌, ◌<◌, ◌≤◌, List, [], ◌∷◌, ◌++◌, length, take, drop, replicate, slice_set, refl, ap, sym, ◌∙◌, append_assoc, arith, length-append}
use Rattle.std.proofs.lemmas.List.{take-set, take-take, take-replicate, take-append-drop, replicate-append-replicate, drop-set, drop_all, take_at, drop_at, append-nil, length-take-le}
use borrow.Rule.Slice.PartMut.{put_mid}
use Rattle.claim_profile.specs.Authorization.{padded_number}

pub length-padded_number : (digits number : ℕ) → length (padded_number digits number) ≡ digits
unfolding padded_number
length-padded_number zero number = refl
length-padded_number (suc digits) number =
    omega (arith, length-append (padded_number digits (number / 10)) ((48 + number % 10) ∷ []), length-padded_number digits (number / 10))

-- one digit written in front of those that are there
pub digit_written : (place rest : ℕ) (digits whole : List ℕ) → 0 < place → place - 1 < length digits
    → padded_number place rest ++ drop place digits ≡ whole
    → padded_number (place - 1) (rest / 10) ++ drop (place - 1) (slice_set digits (place - 1) (48 + rest % 10)) ≡ whole
unfolding padded_number
digit_written place rest digits whole some within so_far =
    let before = place - 1 in
    let is_next : place ≡ suc before = omega arith in
    let is_more : place ≡ before + 1 = omega arith in
    ap (λ (ds : List ℕ). padded_number before (rest / 10) ++ ds) (drop-set digits before (48 + rest % 10) within)
    ∙ sym (append_assoc (padded_number before (rest / 10)) ((48 + rest % 10) ∷ []) (drop (before + 1) digits))
    ∙ ap (λ (n : ℕ). padded_number (suc before) rest ++ drop n digits) (sym is_more)
    ∙ ap (λ (n : ℕ). padded_number n rest ++ drop place digits) (sym is_next)
    ∙ so_far

-- twelve digits after four
pub digits_joined : (payer serial zeros : List ℕ) → length payer ≡ 4 → length zeros ≡ 12 → put_mid 4 12 (payer ++ zeros) serial ≡ payer ++ serial
digits_joined payer serial zeros four twelve =
    let rest : drop 12 (drop 4 (payer ++ zeros)) ≡ [] = ap (drop 12) (drop_at payer zeros 4 four) ∙ drop_all 12 zeros (omega arith) in
    ap (λ (front : List ℕ). front ++ (serial ++ drop 12 (drop 4 (payer ++ zeros)))) (take_at payer zeros 4 four)
    ∙ ap (λ (behind : List ℕ). payer ++ (serial ++ behind)) rest ∙ ap (λ (t : List ℕ). payer ++ t) (append-nil serial)

pub twelve_left : (payer zeros : List ℕ) → length payer ≡ 4 → length zeros ≡ 12 → length (take 12 (drop 4 (payer ++ zeros))) ≡ 12
twelve_left payer zeros four twelve = ap (λ (xs : List ℕ). length (take 12 xs)) (drop_at payer zeros 4 four) ∙ length-take-le 12 zeros (omega arith)

-- no digits but zeros
pub padded_zero : (digits : ℕ) → padded_number digits 0 ≡ replicate digits 48
unfolding padded_number
padded_zero zero = refl
padded_zero (suc digits) =
    let one_more : digits + 1 ≡ suc digits = omega arith in
    ap (λ (ds : List ℕ). ds ++ 48 ∷ []) (padded_zero digits) ∙ replicate-append-replicate digits 1 48
    ∙ ap (λ (n : ℕ). replicate n 48) one_more

-- where nothing is left to write, the zeros that are there are the digits
pub zeros_stay : (place : ℕ) (digits whole : List ℕ) → take place digits ≡ replicate place 48
    → padded_number place 0 ++ drop place digits ≡ whole → digits ≡ whole
zeros_stay place digits whole zeros so_far =
    sym (take-append-drop place digits)
    ∙ ap (λ (ds : List ℕ). ds ++ drop place digits) (zeros ∙ sym (padded_zero place))
    ∙ so_far

-- the zeros in front of a digit that is written
pub zeros_before : (place byte : ℕ) (digits : List ℕ) → take place digits ≡ replicate place 48
    → take (place - 1) (slice_set digits (place - 1) byte) ≡ replicate (place - 1) 48
zeros_before place byte digits zeros =
    let fewer : place - 1 ≤ place = omega arith in
    take-set digits (place - 1) byte
    ∙ sym (take-take (place - 1) place digits fewer)
    ∙ ap (take (place - 1)) zeros
    ∙ take-replicate (place - 1) place 48 fewer

-- twelve zeros after four bytes
pub zeros_behind : (front : List ℕ) → length front ≡ 4
    → take 12 (drop 4 (front ++ replicate 12 48)) ≡ replicate (length (take 12 (drop 4 (front ++ replicate 12 48)))) 48
zeros_behind front four =
    ap (take 12) (drop_at front (replicate 12 48) 4 four)
    ∙ ap (λ (n : ℕ). replicate n 48) (sym (twelve_left front (replicate 12 48) four refl))
