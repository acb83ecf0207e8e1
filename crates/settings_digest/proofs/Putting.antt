-- Loops over what is put: so far, and then what is left.
use Rattle.std.proofs.Common.{◌≡◌, ℕ, zero, suc, ◌+◌, ◌<◌, List, [], ◌∷◌, ◌++◌, length, map, drop, get_or, Option, Some, slice_get, refl, sym, ap, ◌∙◌, subst, arith, append_assoc, append-nil}
use Rattle.std.specs.Prelude.{IfSome}
use Rattle.std.proofs.lemmas.List.{drop_more, length-map}
use Rattle.settings_digest.specs.Said.{number_text, list_text}
use Rattle.settings_digest.specs.Fits.{FitsList}
use Rattle.std.specs.List.{AllByRecursion, flat_map}

-- so far and then what is left is all, and all fit if those that are left do
pub record Puts {A : Type 0} (text : A → List ℕ) (Fits : A → Type 0) (before now : List ℕ) (all left : List A) : Type 0 where
  pub same : now ++ flat_map text left ≡ before ++ flat_map text all
  pub fits : AllByRecursion Fits left → AllByRecursion Fits all

pub goes_on : {A : Type 0} (text : A → List ℕ) (Fits : A → Type 0) (before now longer : List ℕ) (all left : List A) (one : A) (rest : List A) → left ≡ one ∷ rest → longer ≡ now ++ text one → Fits one
    → Puts text Fits before now all left → Puts text Fits before longer all rest
goes_on {A} text Fits before now longer all left one rest is put fits so_far = record {
  same = ap (λ (t : List ℕ). t ++ flat_map text rest) put ∙ (append_assoc now (text one) (flat_map text rest) ∙ (ap (λ (xs : List A). now ++ flat_map text xs) (sym is) ∙ so_far.same));
  fits = λ f. so_far.fits (rw is (fits, f));
}

pub ends : {A : Type 0} (text : A → List ℕ) (Fits : A → Type 0) (before now : List ℕ) (all left : List A) → left ≡ [] → Puts text Fits before now all left → (now ≡ before ++ flat_map text all) × AllByRecursion Fits all
ends {A} text Fits before now all left none so_far =
    (sym (append-nil now) ∙ (ap (λ (xs : List A). now ++ flat_map text xs) (sym none) ∙ so_far.same), so_far.fits (rw none tt))

-- what is put of things as they are seen
seen_items : {A B : Type 0} (see : A → B) (text : B → List ℕ) (xs : List A) → flat_map (λ (x : A). text (see x)) xs ≡ flat_map text (map see xs)
seen_items see text [] = refl
seen_items see text (x ∷ xs) = ap (λ (t : List ℕ). text (see x) ++ t) (seen_items see text xs)

pub seen_text : {A B : Type 0} (see : A → B) (text : B → List ℕ) (xs : List A) → list_text (λ (x : A). text (see x)) xs ≡ list_text text (map see xs)
unfolding list_text
seen_text {A} see text xs =
    ap (λ (n : ℕ). number_text n ++ flat_map (λ (x : A). text (see x)) xs) (sym (length-map xs see)) ∙ ap (λ (t : List ℕ). number_text (length (map see xs)) ++ t) (seen_items see text xs)

each_seen : {A B : Type 0} (see : A → B) (Fits : B → Type 0) (xs : List A) → AllByRecursion (λ (x : A). Fits (see x)) xs → AllByRecursion Fits (map see xs)
each_seen see Fits [] all = tt
each_seen see Fits (x ∷ xs) all = (all.0, each_seen see Fits xs all.1)

pub seen_fit : {A B : Type 0} (see : A → B) (Fits : B → Type 0) (xs : List A) → FitsList (λ (x : A). Fits (see x)) xs → FitsList Fits (map see xs)
seen_fit see Fits xs fit = (let e = length-map xs see in let s = fit.0 in omega (arith, e, s), each_seen see Fits xs fit.1)

-- what is left at a place begins with what stands there
pub left_at : {A : Type 0} (xs : List A) (i : ℕ) (x : A) → i < length xs → x ≡ get_or xs i x → drop i xs ≡ x ∷ drop (i + 1) xs
left_at {A} xs i x h e = drop_more xs i x h ∙ ap (λ (y : A). y ∷ drop (i + 1) xs) (sym e)

stands : {A : Type 0} (xs : List A) (i : ℕ) → i < length xs → (x : A) × ((slice_get xs i ≡ Some x) × (drop i xs ≡ x ∷ drop (suc i) xs))
stands [] i h = absurd (omega (arith, h))
stands (x ∷ xs) zero h = (x, (refl, refl))
stands (x ∷ xs) (suc i) h = stands xs i (omega (arith, h))

-- the one at a place
pub one_at : {A : Type 0} (text : A → List ℕ) (Fits : A → Type 0) (before now longer : List ℕ) (all : List A) (i : ℕ) → i < length all → IfSome (slice_get all i) (λ x. longer ≡ now ++ text x) → IfSome (slice_get all i) Fits
    → Puts text Fits before now all (drop i all) → Puts text Fits before longer all (drop (i + 1) all)
one_at {A} text Fits before now longer all i h put fits so_far =
    let s = stands all i h in
    let next : suc i ≡ i + 1 = omega arith in
    let is : drop i all ≡ s.0 ∷ drop (i + 1) all = s.1.1 ∙ ap (λ k. s.0 ∷ drop k all) next in
    goes_on text Fits before now longer all (drop i all) s.0 (drop (i + 1) all) is
    (subst (λ (o : Option A). IfSome o (λ x. longer ≡ now ++ text x)) s.1.0 put) (subst (λ (o : Option A). IfSome o Fits) s.1.0 fits) so_far
