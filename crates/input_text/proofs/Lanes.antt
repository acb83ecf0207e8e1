-- The run of bytes that stand for themselves, from a mask of sixteen lanes.
use Rattle.std.proofs.Common.{◌≡◌, ℕ, suc, ◌+◌, ◌%◌, ◌^◌, ◌<◌, ◌≤◌, Bool, true, false, not, cond, List, [], ◌∷◌, ◌++◌, map, length, take, Fits, w8, refl, sym, ap, ap₂, ◌∙◌, arith}
use Rattle.std.specs.List.{list_all, prefix_len}
use Rattle.std.proofs.lemmas.Bool.{agree_below, agree_below_at}
use Rattle.std.proofs.lemmas.List.{length-map, length-take-le, take-take}
use Rattle.std.proofs.Math.Seq.{take-append-add}
use Rattle.std.proofs.lemmas.List.Sums.{prefix_len-le-length}
use Rattle.std.proofs.lemmas.Simd.{mask_l-mod, leading_from_mask_l, trailing_mask_l}
use lib.Lanes.{mask_l, top, Each1}
use lib.Count.{count_trailing_zeros}

module _ (p : ℕ → Bool) where
  -- where a byte stops, lane by lane
  abbrev pub stops : ℕ → Bool
  stops x = not (p x)

  not-stops : (x : ℕ) → not (stops x) ≡ p x
  not-stops x = grind arith

  same_run : (v : List ℕ) → prefix_len (λ x. not (stops x)) v ≡ prefix_len p v
  same_run [] = refl
  same_run (x ∷ xs) = ap₂ (λ b n. cond b (1 + n) 0) (not-stops x) (same_run xs)

  each_lane : (f : ℕ → ℕ) → agree_below (λ x. top 7 (f x)) stops 256 ≡ true → (v : List ℕ) → Each1 (Fits w8) v → map (top 7) (map f v) ≡ map stops v
  each_lane f all [] fits = refl
  each_lane f all (x ∷ xs) fits = ap₂ (λ a b. a ∷ b) (agree_below_at (λ y. top 7 (f y)) stops 256 x all fits.0.fits) (each_lane f all xs fits.1)

  module _ (f : ℕ → ℕ) (v z : List ℕ) (short : length v ≤ 64) (fits : Each1 (Fits w8) v) (lanes : z ≡ map f v) (all : agree_below (λ x. top 7 (f x)) stops 256 ≡ true) where
    mask_is : mask_l (map (top 7) z) % 2 ^ 64 ≡ mask_l (map stops v)
    mask_is =
        ap (λ l. mask_l l % 2 ^ 64) (ap (map (top 7)) lanes ∙ each_lane f all v fits) ∙ mask_l-mod (map stops v) 64 (omega (arith, length-map v stops))

    -- no lane stops
    pub runs_through : mask_l (map (top 7) z) % 2 ^ 64 ≡ 0 → length v ≡ prefix_len p v
    runs_through none = sym (leading_from_mask_l stops v (sym mask_is ∙ none)) ∙ same_run v

    -- the lowest lane that stops
    pub stops_at : 0 < mask_l (map (top 7) z) % 2 ^ 64 → count_trailing_zeros 64 (mask_l (map (top 7) z) % 2 ^ 64) ≡ prefix_len p v
    stops_at some = ap (count_trailing_zeros 64) mask_is ∙ trailing_mask_l stops 64 v short (omega (arith, mask_is)) ∙ same_run v

  -- the bytes of a run pass
  pub run_passes : (v : List ℕ) → list_all p (take (prefix_len p v) v) ≡ true
  run_passes [] = refl
  run_passes (x ∷ xs) = by_test x xs (p x) refl (run_passes xs)
    where
      by_test : (x : ℕ) (xs : List ℕ) (b : Bool) → p x ≡ b → list_all p (take (prefix_len p xs) xs) ≡ true → list_all p (take (cond b (1 + prefix_len p xs) 0) (x ∷ xs)) ≡ true
      by_test x xs true e rest = let s : 1 + prefix_len p xs ≡ suc (prefix_len p xs) = omega arith in rw (s, e) rest
      by_test x xs false e rest = refl

  -- a run among the first bytes of a text is one of the text
  pub run_few : (text : List ℕ) (n r : ℕ) → r ≡ prefix_len p (take n text) → n ≤ length text → r ≤ n
  run_few text n r is long = omega (arith, is, prefix_len-le-length p (take n text), length-take-le n text long)

  pub run_plain : (text : List ℕ) (n r : ℕ) → r ≡ prefix_len p (take n text) → n ≤ length text → list_all p (take r text) ≡ true
  run_plain text n r is long =
      ap (list_all p) (sym (take-take r n text (run_few text n r is long))) ∙ (ap (λ k. list_all p (take k (take n text))) is ∙ run_passes (take n text))

-- what was copied, as far as the run goes
pub copied_run : (out old run : List ℕ) (at k n : ℕ) → n ≤ k → at ≤ length old → take (at + k) out ≡ take at old ++ run → take (at + n) out ≡ take at old ++ take n run
copied_run out old run at k n le within e =
    let long : length (take at old) ≡ at = length-take-le at old within in
    sym (take-take (at + n) (at + k) out (omega arith)) ∙ (ap (take (at + n)) e ∙ (ap (λ j. take (j + n) (take at old ++ run)) (sym long) ∙ take-append-add (take at old) run n))
