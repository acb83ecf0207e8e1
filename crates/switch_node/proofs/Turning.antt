-- What a list keeps when it is turned, and what a ring is after an entry took the place of the oldest.
use Rattle.std.proofs.Common.{◌≡◌, ℕ, ◌+◌, ◌-◌, ◌<◌, ◌≤◌, ◌==◌, Bool, true, false, cond, List, [], ◌∷◌, ◌++◌, map, length, take, drop, slice_set, slice_index_or, refl, sym, ap, subst, ◌∙◌, arith, append_assoc, length-append, length-drop, IsPermutation, take-append-drop}
use Rattle.std.specs.Cmp.{IsEquivalence}
use Rattle.std.specs.List.{IsDistinct, swap_remove}
use Rattle.std.specs.Map.{keys_of, lookup, IsKeyTest}
use Rattle.std.proofs.lemmas.List.{append-nil, map-append, drop-map, take-map, drop-append-le, drop-drop, drop-set-lt, take_more_set, take_all, drop_all, take_at, set-append_left, length-set}
use Rattle.std.proofs.Math.Seq.{get_or-append_seam}
use Rattle.std.proofs.lemmas.List.Sorted.{IsPermutation-append_comm, IsPermutation-map, IsPermutation-sym, length_permutation}
use Rattle.std.proofs.lemmas.Bool.Decides.{nat_tests}
use Rattle.indexmap.proofs.MapLemmas.{lookup_permutation, distinct_permutation}
use Rattle.switch_node.specs.Ring.{turned, next}

pub turned-zero : {X : Type 0} (xs : List X) → turned 0 xs ≡ xs
unfolding turned
turned-zero xs = append-nil xs

pub turned-whole : {X : Type 0} (n : ℕ) (xs : List X) → length xs ≤ n → turned n xs ≡ xs
unfolding turned
turned-whole n xs all = λ j. drop_all n xs all j ++ take_all n xs all j

pub turned-moves : {X : Type 0} (n : ℕ) (xs : List X) → IsPermutation (turned n xs) xs
unfolding turned
turned-moves n xs = subst (IsPermutation (drop n xs ++ take n xs)) (take-append-drop n xs) (IsPermutation-append_comm (drop n xs) (take n xs))

pub length-turned : {X : Type 0} (n : ℕ) (xs : List X) → length (turned n xs) ≡ length xs
length-turned n xs = sym (length_permutation (turned n xs) xs (turned-moves n xs))

pub turned-map : {X Y : Type 0} (f : X → Y) (n : ℕ) (xs : List X) → turned n (map f xs) ≡ map f (turned n xs)
unfolding turned
turned-map f n xs = (λ j. drop-map f n xs j ++ take-map f n xs j) ∙ sym (map-append f (drop n xs) (take n xs))

-- a look-up finds the same in a turned list
pub lookup-turned : {K X : Type 0} {R : K → K → Bool} (o : IsEquivalence R) (t : K → Bool) → IsKeyTest R t → (n : ℕ) (es : List (K × X)) → IsDistinct R (keys_of es) → lookup t (turned n es) ≡ lookup t es
lookup-turned o t key n es distinct = sym (lookup_permutation o (turned n es) es (turned-moves n es) distinct t key)

-- and its keys stay distinct
pub distinct-turned : {K X : Type 0} {R : K → K → Bool} (o : IsEquivalence R) (n : ℕ) (es : List (K × X)) → IsDistinct R (keys_of es) → IsDistinct R (keys_of (turned n es))
distinct-turned o n es distinct = distinct_permutation o (keys_of es) (keys_of (turned n es)) (IsPermutation-map (λ e. e.0) es (turned n es) (IsPermutation-sym (turned n es) es (turned-moves n es))) distinct

-- the last entry takes the place at the head
pub after_swap : {X : Type 0} (rest : List X) (last : X) (head : ℕ) (gone : X) → head < length rest → swap_remove (rest ++ last ∷ []) head gone ≡ slice_set rest head last
after_swap rest last head gone within =
    let short : length (rest ++ last ∷ []) - 1 ≡ length rest = omega (arith, length-append rest (last ∷ [])) in
    let long : length (slice_set rest head last) ≡ length rest = length-set rest head last in
    (λ j. take (short j) (slice_set (rest ++ last ∷ []) head (slice_index_or (rest ++ last ∷ []) (short j) gone)))
    ∙ ap (λ x. take (length rest) (slice_set (rest ++ last ∷ []) head x)) (get_or-append_seam rest last [] gone)
    ∙ ap (take (length rest)) (set-append_left rest (last ∷ []) head last within)
    ∙ take_at (slice_set rest head last) (last ∷ []) (length rest) long

module _ {X : Type 0} (xs : List X) (x : X) (head cap : ℕ) (full : length xs ≡ cap) (within : head < cap) where
  -- the ring from the place after the head
  behind : turned (head + 1) (slice_set xs head x) ≡ drop 1 (turned head xs) ++ x ∷ []
  unfolding turned
  behind =
      let some : 1 ≤ length (drop head xs) = omega (arith, length-drop head xs) in
      (λ j. drop-set-lt (head + 1) xs head x (omega arith) j ++ take_more_set xs head x (omega arith) j)
      ∙ sym (append_assoc (drop (head + 1) xs) (take head xs) (x ∷ []))
      ∙ ap (λ l. (l ++ take head xs) ++ x ∷ []) (sym (drop-drop 1 head xs))
      ∙ ap (λ l. l ++ x ∷ []) (sym (drop-append-le 1 (drop head xs) (take head xs) some))

  -- and round it
  pub turned-entered : turned (next head cap) (slice_set xs head x) ≡ drop 1 (turned head xs) ++ x ∷ []
  turned-entered = by (head + 1 == cap) refl
    where
      by : (b : Bool) → (head + 1 == cap) ≡ b → turned (cond b 0 (head + 1)) (slice_set xs head x) ≡ drop 1 (turned head xs) ++ x ∷ []
      by true e =
          let last : head + 1 ≡ cap = grind (arith, nat_tests) in
          turned-zero (slice_set xs head x) ∙ sym (turned-whole (head + 1) (slice_set xs head x) (omega (arith, length-set xs head x))) ∙ behind
      by false e = behind
