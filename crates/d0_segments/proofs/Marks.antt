-- From the mask of sixteen bytes to the place of the first separator.
use Rattle.std.proofs.Common.{◌≡◌, ℕ, ◌+◌, ◌*◌, ◌-◌, ◌%◌, ◌^◌, ◌<◌, ◌≤◌, Bool, true, false, not, cond, ltb, eqb, ◌&&◌, List, [], ◌∷◌, map, length, take, drop, replicate, Some, None, refl, sym, ap, ap₂, ◌∙◌, arith, w8, Fits, zero, suc, take-append-drop, length-take-le, length-drop}
use Rattle.std.specs.List.{prefix_len}
use Rattle.std.proofs.lemmas.Bool.{agree_below_at, eq-eqb, ne_eqb}
use Rattle.std.proofs.lemmas.Simd.{zip2_splat, map-map, mask_l-mod, leading_from_mask_l, trailing_mask_l}
use Rattle.std.proofs.Math.Seq.{take-length}
use Rattle.std.proofs.lemmas.List.{length-map}
use Rattle.std.proofs.lemmas.List.Folds.{prefix_len-append}
use Rattle.std.proofs.lemmas.List.Sums.{prefix_len-le-length}
use lib.Count.{count_trailing_zeros}
use lib.Lanes.{zip2, mask_l, top, Each1}
use Rattle.d0_segments.specs.Separators.{is_separator, is_plain, ends_here, plain_length, first_separator}
use Rattle.d0_segments.proofs.Separating.{head_none, head_zero, head_suc}

-- a lane less a byte, around the end of the bytes
abbrev pub less : ℕ → ℕ → ℕ
less a b = (a + (256 - b)) % 256

-- all bits of a lane that is below a byte
abbrev pub below : ℕ → ℕ → ℕ
below a b = cond (ltb a b) 255 0

-- what is computed for a lane
abbrev pub mark : ℕ → ℕ
mark b = below (less b 28) 3

marks : (v : List ℕ) → length v ≡ 16 → zip2 below (zip2 less v (replicate 16 28)) (replicate 16 3) ≡ map mark v
marks v long =
    ap (λ xs. zip2 below xs (replicate 16 3)) (zip2_splat less v 16 28 long)
    ∙ zip2_splat below (map (λ b. less b 28) v) 16 3 (length-map v (λ b. less b 28) ∙ long)
    ∙ map-map (λ x. below x 3) (λ b. less b 28) v

-- a lane is marked just where its byte is a separator
marked : (v : List ℕ) → Each1 (Fits w8) v → map (top 7) (map mark v) ≡ map is_separator v
marked [] fits = refl
marked (b ∷ v) fits = ap₂ (λ x xs. x ∷ xs) (agree_below_at (λ x. top 7 (mark x)) is_separator 256 b refl fits.0.fits) (marked v fits.1)

pub mask_is : (v z : List ℕ) → length v ≡ 16 → Each1 (Fits w8) v → z ≡ zip2 below (zip2 less v (replicate 16 28)) (replicate 16 3) → mask_l (map (top 7) z) % 2 ^ 64 ≡ mask_l (map is_separator v)
mask_is v z long fits e =
    ap (λ l. mask_l (map (top 7) l) % 2 ^ 64) (e ∙ marks v long) ∙ ap (λ l. mask_l l % 2 ^ 64) (marked v fits)
    ∙ mask_l-mod (map is_separator v) 64 (omega (arith, length-map v is_separator))

abbrev plain : ℕ → Bool
plain b = not (is_separator b)

-- the front of a text decides, where a separator stands in it
cut : (d : List ℕ) → plain_length d ≡ cond (eqb (prefix_len plain (take 16 d)) (length (take 16 d))) (length (take 16 d) + plain_length (drop 16 d)) (prefix_len plain (take 16 d))
cut d = ap plain_length (sym (take-append-drop 16 d)) ∙ prefix_len-append plain (take 16 d) (drop 16 d)

none_marked : (b : Bool) (n l m : ℕ) → n ≤ l → cond (not b) (1 + n) 0 ≡ 1 + l → (n ≡ l → m ≡ 0) → cond b 1 0 + 2 * m ≡ 0
none_marked true n l m le e h = let no : ⊥ = omega arith in absurd no
none_marked false n l m le e h = let z = h (omega arith) in omega arith

all_plain : (xs : List ℕ) → prefix_len plain xs ≡ length xs → mask_l (map is_separator xs) ≡ 0
all_plain [] e = refl
all_plain (x ∷ xs) e = none_marked (is_separator x) (prefix_len plain xs) (length xs) (mask_l (map is_separator xs)) (prefix_len-le-length plain xs) (omega arith) (all_plain xs)

pub far : (d : List ℕ) → 16 ≤ length d → mask_l (map is_separator (take 16 d)) ≡ 0 → plain_length d ≡ 16 + plain_length (drop 16 d)
far d long none =
    let front = take 16 d in
    cut d ∙ ap (λ b. cond b (length front + plain_length (drop 16 d)) (prefix_len plain front)) (eq-eqb (prefix_len plain front) (length front) (leading_from_mask_l is_separator front none))
    ∙ ap (λ n. n + plain_length (drop 16 d)) (length-take-le 16 d long)

pub near : (d : List ℕ) → 16 ≤ length d → 0 < mask_l (map is_separator (take 16 d)) → plain_length d ≡ count_trailing_zeros 64 (mask_l (map is_separator (take 16 d)))
near d long some =
    let front = take 16 d in
    cut d ∙ ap (λ b. cond b (length front + plain_length (drop 16 d)) (prefix_len plain front)) (ne_eqb (prefix_len plain front) (length front) (λ (e : prefix_len plain front ≡ length front). omega (arith, all_plain front e)))
    ∙ sym (trailing_mask_l is_separator 64 front (omega (arith, length-take-le 16 d long)) some)

-- what stands around the end of the plain bytes
plain_step : (b : ℕ) (d : List ℕ) (t : Bool) → is_separator b ≡ t → is_plain (take (plain_length d) d) ≡ true → is_plain (take (plain_length (b ∷ d)) (b ∷ d)) ≡ true
plain_step b d true e h = ap (λ x. is_plain (take (cond (not x) (1 + plain_length d) 0) (b ∷ d))) e
plain_step b d false e h =
    let more : 1 + plain_length d ≡ suc (plain_length d) = omega arith in
    ap (λ x. is_plain (take (cond (not x) (1 + plain_length d) 0) (b ∷ d))) e ∙ ap (λ n. is_plain (take n (b ∷ d))) more ∙ ap (λ x. not x && is_plain (take (plain_length d) d)) e ∙ h

pub plain_take : (d : List ℕ) → is_plain (take (plain_length d) d) ≡ true
plain_take [] = refl
plain_take (b ∷ d) = plain_step b d (is_separator b) refl (plain_take d)

ends_step : (b : ℕ) (d : List ℕ) (t : Bool) → is_separator b ≡ t → ends_here (drop (plain_length d) d) ≡ true → ends_here (drop (plain_length (b ∷ d)) (b ∷ d)) ≡ true
ends_step b d true e h = ap (λ x. ends_here (drop (cond (not x) (1 + plain_length d) 0) (b ∷ d))) e ∙ e
ends_step b d false e h =
    let more : 1 + plain_length d ≡ suc (plain_length d) = omega arith in
    ap (λ x. ends_here (drop (cond (not x) (1 + plain_length d) 0) (b ∷ d))) e ∙ ap (λ n. ends_here (drop n (b ∷ d))) more ∙ h

pub ends_drop : (d : List ℕ) → ends_here (drop (plain_length d) d) ≡ true
ends_drop [] = refl
ends_drop (b ∷ d) = ends_step b d (is_separator b) refl (ends_drop d)

pub within : (d : List ℕ) → plain_length d ≤ length d
within d = prefix_len-le-length plain d

-- the search for a separator tells the same
pub from_place : (d : List ℕ) (p : ℕ) → first_separator d ≡ Some p → plain_length d ≡ p
from_place [] p e = absurd cc
from_place (b ∷ d) zero e = ap (λ x. cond (not x) (1 + plain_length d) 0) (head_zero (is_separator b) (first_separator d) e)
from_place (b ∷ d) (suc p) e =
    let h = head_suc (is_separator b) (first_separator d) p e in
    ap (λ x. cond (not x) (1 + plain_length d) 0) h.0 ∙ omega (arith, from_place d p h.1)

pub from_none : (d : List ℕ) → first_separator d ≡ None → plain_length d ≡ length d
from_none [] e = refl
from_none (b ∷ d) e =
    let h = head_none (is_separator b) (first_separator d) e in
    ap (λ x. cond (not x) (1 + plain_length d) 0) h.0 ∙ omega (arith, from_none d h.1)

-- the same where the length has another name
pub plain_front : (d : List ℕ) (p : ℕ) → p ≡ plain_length d → is_plain (take p d) ≡ true
plain_front d p e = ap (λ n. is_plain (take n d)) e ∙ plain_take d

pub ends_back : (d : List ℕ) (p : ℕ) → p ≡ plain_length d → ends_here (take (length d - p) (drop p d)) ≡ true
ends_back d p e =
    let back : take (length d - p) (drop p d) ≡ drop p d = rw (← length-drop) (take-length (drop p d)) in
    ap ends_here back ∙ ap (λ n. ends_here (drop n d)) e ∙ ends_drop d
