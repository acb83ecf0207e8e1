-- The places of a list at which a test holds, when the list changes.
use Rattle.std.proofs.Common.{◌≡◌, ℕ, zero, suc, ◌+◌, ◌<◌, ◌≤◌, Bool, true, false, not, cond, eqb, List, [], ◌∷◌, ◌++◌, length, map, set, refl, sym, ap, ◌∙◌, arith}
use Rattle.std.specs.List.{AllByRecursion, filter}
use Rattle.std.proofs.lemmas.Bool.{eq-eqb, ne_eqb}
use Rattle.claim_model.proofs.Lists.{all_weaker}
use Rattle.pharmacy_journal.specs.Places.{places_from}

pub AllByRecursion-if : {A : Type 0} (P : A → Type 0) (b : Bool) (x : A) (xs : List A) → P x → AllByRecursion P xs → AllByRecursion P (cond b (x ∷ xs) xs)
AllByRecursion-if P true x xs p h = (p, h)
AllByRecursion-if P false x xs p h = h

-- each place is at or past the first
pub places_from-start : {A : Type 0} (passes : A → Bool) (n : ℕ) (xs : List A) → AllByRecursion (λ k. n ≤ k) (places_from passes n xs)
places_from-start passes n [] = tt
places_from-start passes n (x ∷ xs) =
    AllByRecursion-if (λ k. n ≤ k) (passes x) n (places_from passes (n + 1) xs) (omega arith)
    (all_weaker (λ k. n + 1 ≤ k) (λ k. n ≤ k) (λ k h. omega arith) _ (places_from-start passes (n + 1) xs))

-- one more element that passes
pub places_from-push : {A : Type 0} (passes : A → Bool) (n : ℕ) (xs : List A) (y : A) → passes y ≡ true → places_from passes n (xs ++ y ∷ []) ≡ places_from passes n xs ++ (n + length xs) ∷ []
places_from-push passes n [] y e = rw e (let z : n ≡ n + 0 = omega arith in ap (λ k. k ∷ []) z)
places_from-push passes n (x ∷ xs) y e =
    let s : n + 1 + length xs ≡ n + suc (length xs) = omega arith in
    let ih : places_from passes (n + 1) (xs ++ y ∷ []) ≡ places_from passes (n + 1) xs ++ (n + suc (length xs)) ∷ [] = places_from-push passes (n + 1) xs y e ∙ ap (λ k. places_from passes (n + 1) xs ++ k ∷ []) s in
    elim (passes x) as (λ b. cond b (n ∷ places_from passes (n + 1) (xs ++ y ∷ [])) (places_from passes (n + 1) (xs ++ y ∷ [])) ≡ cond b (n ∷ places_from passes (n + 1) xs) (places_from passes (n + 1) xs) ++ (n + suc (length xs)) ∷ [])
    [ true ↦ ap (λ ks. n ∷ ks) ih | false ↦ ih ]

-- one more that does not
pub places_from-push_other : {A : Type 0} (passes : A → Bool) (n : ℕ) (xs : List A) (y : A) → passes y ≡ false → places_from passes n (xs ++ y ∷ []) ≡ places_from passes n xs
places_from-push_other passes n [] y e = rw e refl
places_from-push_other passes n (x ∷ xs) y e = rw (places_from-push_other passes (n + 1) xs y e) refl

-- every place but one
abbrev pub but : ℕ → ℕ → Bool
but place k = not (eqb place k)

-- where no place is k, nothing is taken out
filter-but_past : (k n : ℕ) (ks : List ℕ) → k < n → AllByRecursion (λ j. n ≤ j) ks → filter (but k) ks ≡ ks
filter-but_past k n [] lt h = refl
filter-but_past k n (j ∷ ks) lt h = let e : eqb k j ≡ false = ne_eqb k j (λ e. omega (arith, e, h.0)) in rw e (ap (λ xs. j ∷ xs) (filter-but_past k n ks lt h.1))

-- an element that passes no more
pub places_from-unset : {A : Type 0} (passes : A → Bool) (n : ℕ) (xs : List A) (i : ℕ) (y : A) → i < length xs → passes y ≡ false → places_from passes n (set xs i y) ≡ filter (but (n + i)) (places_from passes n xs)
places_from-unset passes n [] i y lt e = absurd (omega (arith, lt))
places_from-unset passes n (x ∷ xs) zero y lt e =
    let rest : filter (but (n + 0)) (places_from passes (n + 1) xs) ≡ places_from passes (n + 1) xs = filter-but_past (n + 0) (n + 1) _ (omega arith) (places_from-start passes (n + 1) xs) in
    let here : eqb (n + 0) n ≡ true = eq-eqb _ _ (omega arith) in
    rw e
    (elim (passes x) as (λ b. places_from passes (n + 1) xs ≡ filter (but (n + 0)) (cond b (n ∷ places_from passes (n + 1) xs) (places_from passes (n + 1) xs)))
    [ true ↦ rw here (sym rest) | false ↦ sym rest ])
places_from-unset passes n (x ∷ xs) (suc i) y lt e =
    let s : n + 1 + i ≡ n + suc i = omega arith in
    let ih : places_from passes (n + 1) (set xs i y) ≡ filter (but (n + suc i)) (places_from passes (n + 1) xs) = places_from-unset passes (n + 1) xs i y (omega arith) e ∙ ap (λ k. filter (but k) (places_from passes (n + 1) xs)) s in
    let there : eqb (n + suc i) n ≡ false = ne_eqb _ _ (λ q. omega (arith, q)) in
    elim (passes x) as (λ b. cond b (n ∷ places_from passes (n + 1) (set xs i y)) (places_from passes (n + 1) (set xs i y)) ≡ filter (but (n + suc i)) (cond b (n ∷ places_from passes (n + 1) xs) (places_from passes (n + 1) xs)))
    [ true ↦ rw there (ap (λ ks. n ∷ ks) ih) | false ↦ ih ]

-- of elements that are changed before they are tested
pub places_from-map : {A B : Type 0} (f : A → B) (passes : B → Bool) (n : ℕ) (xs : List A) → places_from passes n (map f xs) ≡ places_from (λ x. passes (f x)) n xs
places_from-map f passes n [] = refl
places_from-map f passes n (x ∷ xs) = rw (places_from-map f passes (n + 1) xs) refl

-- two tests that agree
pub places_from-same : {A : Type 0} (p q : A → Bool) → ((x : A) → p x ≡ q x) → (n : ℕ) (xs : List A) → places_from p n xs ≡ places_from q n xs
places_from-same p q e n [] = refl
places_from-same p q e n (x ∷ xs) = rw (places_from-same p q e (n + 1) xs, e x) refl
