-- The ends of a page of a list.
use Rattle.std.proofs.Common.{◌≡◌, ℕ, zero, suc, ◌+◌, ◌-◌, ◌≤◌, ◌<◌, List, [], ◌∷◌, ◌++◌, Option, Some, None, length, take, drop, slice_get, refl, sym, ap, ◌∙◌, arith, append_assoc}
use Rattle.std.specs.List.{flat_map}
use Rattle.std.proofs.lemmas.List.{append-nil, drop_all, take_all}
use Rattle.std.proofs.lemmas.Option.{same_Some}

take_none : {A : Type 0} (count : ℕ) → take {A = A} count [] ≡ []
take_none zero = refl
take_none (suc count) = refl

-- the element at a place is the first of what is left there
drop_from : {A : Type 0} (xs : List A) (i : ℕ) (a : A) → slice_get xs i ≡ Some a → drop i xs ≡ a ∷ drop (i + 1) xs
drop_from [] i a is = absurd cc
drop_from {A} (x ∷ xs) zero a is = ap (λ (y : A). y ∷ xs) (same_Some x a is)
drop_from {A} (x ∷ xs) (suc i) a is =
    let more : suc i + 1 ≡ suc (i + 1) = omega arith in
    drop_from xs i a is ∙ sym (ap (λ (n : ℕ). a ∷ drop n (x ∷ xs)) more)

drop_past : {A : Type 0} (xs : List A) (i : ℕ) → slice_get xs i ≡ None → drop i xs ≡ []
drop_past [] zero is = refl
drop_past [] (suc i) is = refl
drop_past (x ∷ xs) zero is = absurd cc
drop_past (x ∷ xs) (suc i) is = drop_past xs i is

-- nothing stands after the end
pub none_behind : {A : Type 0} (passed count : ℕ) (xs : List A) → length xs ≤ passed → take count (drop passed xs) ≡ []
none_behind {A} passed count xs h = ap (λ (ys : List A). take count ys) (drop_all passed xs h) ∙ take_none count

-- a list that is no longer than a page is the page
pub all_of : {A : Type 0} (count : ℕ) (xs : List A) → length xs ≤ count → take count xs ≡ xs
all_of count xs h = take_all count xs h

-- a page that is told so far, and what is left of it after so many elements of the list, and so many more
abbrev pub PagedBefore : {A B : Type 0} → (List A → List B) → List B → List B → List A → ℕ → ℕ → ℕ → Type 0
PagedBefore text out all list passed more count = out ++ text (take (count - more) (drop (passed + more) list)) ≡ all

pub page_begins : {A B : Type 0} (text : List A → List B) (out : List B) (list : List A) (passed count : ℕ) → PagedBefore text out (out ++ text (take count (drop passed list))) list passed 0 count
page_begins text out list passed count =
    let all : count - 0 ≡ count = omega arith in
    let here : passed + 0 ≡ passed = omega arith in
    ap (λ (n : ℕ). out ++ text (take n (drop (passed + 0) list))) all ∙ ap (λ (n : ℕ). out ++ text (take count (drop n list))) here

-- one element more is told
pub page_goes_on : {A B : Type 0} (line : A → List B) (out next all : List B) (list : List A) (passed more count : ℕ) (a : A) → more < count → slice_get list (passed + more) ≡ Some a → next ≡ out ++ line a
    → PagedBefore (flat_map line) out all list passed more count → PagedBefore (flat_map line) next all list passed (more + 1) count
page_goes_on {A} {B} line out next all list passed more count a lt is one so_far =
    let left : count - more ≡ suc (count - (more + 1)) = omega arith in
    let place : passed + (more + 1) ≡ passed + more + 1 = omega arith in
    let behind : List A = drop (passed + more + 1) list in
    let there : drop (passed + more) list ≡ a ∷ behind = drop_from list (passed + more) a is in
    let rest : List A = take (count - (more + 1)) behind in
    ap (λ (bs : List B). bs ++ flat_map line (take (count - (more + 1)) (drop (passed + (more + 1)) list))) one
    ∙ (ap (λ (n : ℕ). (out ++ line a) ++ flat_map line (take (count - (more + 1)) (drop n list))) place
    ∙ (append_assoc out (line a) (flat_map line rest)
    ∙ (sym (ap (λ (xs : List A). out ++ flat_map line (take (suc (count - (more + 1))) xs)) there)
    ∙ (sym (ap (λ (n : ℕ). out ++ flat_map line (take n (drop (passed + more) list))) left) ∙ so_far))))

-- there is no element more
pub page_stops : {A B : Type 0} (line : A → List B) (out all : List B) (list : List A) (passed more count : ℕ) → slice_get list (passed + more) ≡ None → PagedBefore (flat_map line) out all list passed more count → out ≡ all
page_stops {A} line out all list passed more count is so_far =
    let none : take (count - more) (drop (passed + more) list) ≡ [] = ap (take (count - more)) (drop_past list (passed + more) is) ∙ take_none (count - more) in
    sym (append-nil out) ∙ (sym (ap (λ (xs : List A). out ++ flat_map line xs) none) ∙ so_far)

-- enough was told
pub page_ends : {A B : Type 0} (line : A → List B) (out all : List B) (list : List A) (passed more count : ℕ) → count ≤ more → PagedBefore (flat_map line) out all list passed more count → out ≡ all
page_ends {A} line out all list passed more count le so_far =
    let none : count - more ≡ 0 = omega arith in
    sym (append-nil out) ∙ (sym (ap (λ (n : ℕ). out ++ flat_map line (take n (drop (passed + more) list))) none) ∙ so_far)
