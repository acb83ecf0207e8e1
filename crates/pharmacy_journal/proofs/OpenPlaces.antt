-- Which places of a bucket are open, when the leads change.
use Rattle.std.proofs.Common.{◌≡◌, ℕ, zero, suc, ◌<◌, Bool, true, false, cond, eqb, List, [], ◌∷◌, ◌++◌, length, map, set, Option, Some, None, option_map, is_some, refl, sym, ap, ◌∙◌, ⊎_elim}
use Rattle.std.specs.List.{AllByRecursion, filter}
use Rattle.std.proofs.lemmas.Bool.{eq-eqb, ne_eqb, cases_eq, cases_Bool}
use Rattle.std.proofs.lemmas.List.{get_or-set_other, get_or_append_left}
use Rattle.pharmacy_journal.specs.Timetable.{is_open}
use Rattle.pharmacy_journal.proofs.PlaceLemmas.{AllByRecursion-if, but}

-- a settled entry's place is not open
unset_here : (leads : List (Option ℕ)) (place : ℕ) → is_open (set leads place None) place ≡ false
unset_here [] place = refl
unset_here (lead ∷ leads) zero = refl
unset_here (lead ∷ leads) (suc place) = unset_here leads place

-- and the others are as they were
pub filter-unset : (leads : List (Option ℕ)) (place : ℕ) (ks : List ℕ) → filter (is_open (set leads place None)) ks ≡ filter (but place) (filter (is_open leads) ks)
filter-unset leads place [] = refl
filter-unset leads place (k ∷ ks) =
    let ih = filter-unset leads place ks in
    ⊎_elim
    (λ (same : place ≡ k).
    let gone : is_open (set leads place None) k ≡ false = ap (is_open (set leads place None)) (sym same) ∙ unset_here leads place in
    let here : eqb place k ≡ true = eq-eqb place k same in
    rw gone
    (elim (is_open leads k) as (λ b. filter (is_open (set leads place None)) ks ≡ filter (but place) (cond b (k ∷ filter (is_open leads) ks) (filter (is_open leads) ks)))
    [ true ↦ rw here ih | false ↦ ih ]))
    (λ (n : place ≡ k → ⊥).
    let stays : is_open (set leads place None) k ≡ is_open leads k = ap is_some (get_or-set_other leads place k None None (λ e. n (sym e))) in
    let other : eqb place k ≡ false = ne_eqb place k n in
    rw stays
    (elim (is_open leads k) as (λ b. cond b (k ∷ filter (is_open (set leads place None)) ks) (filter (is_open (set leads place None)) ks) ≡ filter (but place) (cond b (k ∷ filter (is_open leads) ks) (filter (is_open leads) ks)))
    [ true ↦ rw other (ap (λ xs. k ∷ xs) ih) | false ↦ ih ]))
    (cases_eq place k)

-- one entry more changes nothing for places that were there
pub filter-entered : (leads : List (Option ℕ)) (lead : Option ℕ) (ks : List ℕ) → AllByRecursion (λ k. k < length leads) ks → filter (is_open (leads ++ lead ∷ [])) ks ≡ filter (is_open leads) ks
filter-entered leads lead [] h = refl
filter-entered leads lead (k ∷ ks) h =
    let stays : is_open (leads ++ lead ∷ []) k ≡ is_open leads k = ap is_some (get_or_append_left leads (lead ∷ []) None k h.0) in
    rw (stays, filter-entered leads lead ks h.1) refl

-- and its own place is open where it has a lead
pub is_open-last : (leads : List (Option ℕ)) (lead : ℕ) → is_open (leads ++ Some lead ∷ []) (length leads) ≡ true
is_open-last [] lead = refl
is_open-last (x ∷ leads) lead = is_open-last leads lead

-- open is open, whatever the phase
pub is_open-map : (f : ℕ → ℕ) (leads : List (Option ℕ)) (k : ℕ) → is_open (map (option_map f) leads) k ≡ is_open leads k
is_open-map f [] k = refl
is_open-map f (None ∷ leads) zero = refl
is_open-map f (Some lead ∷ leads) zero = refl
is_open-map f (lead ∷ leads) (suc k) = is_open-map f leads k

-- what passes passes again
pub filter_again : {A : Type 0} (passes : A → Bool) (xs : List A) → filter passes (filter passes xs) ≡ filter passes xs
filter_again passes [] = refl
filter_again passes (x ∷ xs) =
    ⊎_elim
    (λ (e : passes x ≡ true). rw e (rw e (ap (λ ys. x ∷ ys) (filter_again passes xs))))
    (λ (e : passes x ≡ false). rw e (filter_again passes xs))
    (cases_Bool (passes x))

-- what holds of all holds of those that pass
pub AllByRecursion-filter : {A : Type 0} (P : A → Type 0) (passes : A → Bool) (xs : List A) → AllByRecursion P xs → AllByRecursion P (filter passes xs)
AllByRecursion-filter P passes [] h = tt
AllByRecursion-filter P passes (x ∷ xs) h = AllByRecursion-if P (passes x) x (filter passes xs) h.0 (AllByRecursion-filter P passes xs h.1)
