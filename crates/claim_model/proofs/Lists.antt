-- Lists by number and by recursion.
use Rattle.std.proofs.Common.{◌≡◌, ℕ, zero, suc, ◌+◌, ◌<◌, ◌≤◌, Bool, true, false, cond, List, [], ◌∷◌, ◌++◌, map, drop, length, Option, Some, None, slice_get, slice_set, refl, ap, subst, ◌⊎◌, inl, inr, arith}
use Rattle.std.specs.Prelude.{find, filter, option_map}
use Rattle.std.specs.List.{AllByRecursion}
use Rattle.claim_model.specs.Numbered.{numbered, renumbered}

-- elements by their place

pub get_put : {A : Type 0} (xs : List A) (k : ℕ) (a b : A) → slice_get xs k ≡ Some a → slice_get (slice_set xs k b) k ≡ Some b
get_put [] k a b h = absurd cc
get_put (x ∷ xs) zero a b h = refl
get_put (x ∷ xs) (suc k) a b h = get_put xs k a b h

pub get_put_other : {A : Type 0} (xs : List A) (k m : ℕ) (b : A) → (k ≡ m → ⊥) → slice_get (slice_set xs k b) m ≡ slice_get xs m
get_put_other [] k m b d = refl
get_put_other (x ∷ xs) zero zero b d = absurd (d refl)
get_put_other (x ∷ xs) zero (suc m) b d = refl
get_put_other (x ∷ xs) (suc k) zero b d = refl
get_put_other (x ∷ xs) (suc k) (suc m) b d = get_put_other xs k m b (λ e. d (ap suc e))

pub get_append : {A : Type 0} (xs ys : List A) (k : ℕ) (a : A) → slice_get xs k ≡ Some a → slice_get (xs ++ ys) k ≡ Some a
get_append [] ys k a h = absurd cc
get_append (x ∷ xs) ys zero a h = h
get_append (x ∷ xs) ys (suc k) a h = get_append xs ys k a h

pub get_last : {A : Type 0} (xs : List A) (y : A) → slice_get (xs ++ y ∷ []) (length xs) ≡ Some y
get_last [] y = refl
get_last (x ∷ xs) y = get_last xs y

-- an element of a list with one more is an old one, or the last
pub get_more : {A : Type 0} (xs : List A) (y : A) (k : ℕ) (a : A) → slice_get (xs ++ y ∷ []) k ≡ Some a → (slice_get xs k ≡ Some a) ⊎ ((k ≡ length xs) × (a ≡ y))
get_more [] y zero a h = inr (refl, cc)
get_more [] y (suc k) a h = absurd cc
get_more (x ∷ xs) y zero a h = inl h
get_more (x ∷ xs) y (suc k) a h = elim (get_more xs y k a h) [ inl e ↦ inl e | inr e ↦ inr (ap suc e.0, e.1) ]

pub get_within : {A : Type 0} (xs : List A) (k : ℕ) (a : A) → slice_get xs k ≡ Some a → k < length xs
get_within [] k a h = absurd cc
get_within (x ∷ xs) zero a h = omega arith
get_within (x ∷ xs) (suc k) a h = let r = get_within xs k a h in omega arith

pub get_exists : {A : Type 0} (xs : List A) (k : ℕ) → k < length xs → (a : A) × (slice_get xs k ≡ Some a)
get_exists [] k h = absurd (omega arith)
get_exists (x ∷ xs) zero h = (x, refl)
get_exists (x ∷ xs) (suc k) h = get_exists xs k (omega arith)

pub get_map : {A B : Type 0} (f : A → B) (xs : List A) (k : ℕ) → slice_get (map f xs) k ≡ option_map f (slice_get xs k)
get_map f [] k = refl
get_map f (x ∷ xs) zero = refl
get_map f (x ∷ xs) (suc k) = get_map f xs k

-- elements by their number

pub numbered_put : {A : Type 0} (xs : List A) (n : ℕ) (a b : A) → numbered xs n ≡ Some a → numbered (renumbered xs n b) n ≡ Some b
numbered_put xs zero a b h = absurd cc
numbered_put xs (suc k) a b h = get_put xs k a b h

pub numbered_put_other : {A : Type 0} (xs : List A) (n m : ℕ) (b : A) → (n ≡ m → ⊥) → numbered (renumbered xs n b) m ≡ numbered xs m
numbered_put_other xs zero m b d = refl
numbered_put_other xs (suc k) zero b d = refl
numbered_put_other xs (suc k) (suc m) b d = get_put_other xs k m b (λ e. d (ap suc e))

pub numbered_append : {A : Type 0} (xs ys : List A) (n : ℕ) (a : A) → numbered xs n ≡ Some a → numbered (xs ++ ys) n ≡ Some a
numbered_append xs ys zero a h = absurd cc
numbered_append xs ys (suc k) a h = get_append xs ys k a h

pub numbered_last : {A : Type 0} (xs : List A) (y : A) → numbered (xs ++ y ∷ []) (length xs + 1) ≡ Some y
numbered_last xs y = let e : suc (length xs) ≡ length xs + 1 = omega arith in subst (λ (n : ℕ). numbered (xs ++ y ∷ []) n ≡ Some y) e (get_last xs y)

pub numbered_more : {A : Type 0} (xs : List A) (y : A) (n : ℕ) (a : A) → numbered (xs ++ y ∷ []) n ≡ Some a → (numbered xs n ≡ Some a) ⊎ ((n ≡ length xs + 1) × (a ≡ y))
numbered_more xs y zero a h = absurd cc
numbered_more xs y (suc k) a h = elim (get_more xs y k a h) [ inl e ↦ inl e | inr e ↦ inr (omega (arith, e.0), e.1) ]

pub numbered_within : {A : Type 0} (xs : List A) (n : ℕ) (a : A) → numbered xs n ≡ Some a → (0 < n) × (n ≤ length xs)
numbered_within xs zero a h = absurd cc
numbered_within xs (suc k) a h = let r = get_within xs k a h in (omega arith, omega arith)

pub numbered_exists : {A : Type 0} (xs : List A) (n : ℕ) → 0 < n → n ≤ length xs → (a : A) × (numbered xs n ≡ Some a)
numbered_exists xs zero p h = absurd (omega arith)
numbered_exists xs (suc k) p h = get_exists xs k (omega arith)

pub numbered_map : {A B : Type 0} (f : A → B) (xs : List A) (n : ℕ) → numbered (map f xs) n ≡ option_map f (numbered xs n)
numbered_map f xs zero = refl
numbered_map f xs (suc k) = get_map f xs k

-- what holds of each element

pub all_at : {A : Type 0} (P : A → Type 0) (xs : List A) (n : ℕ) (a : A) → AllByRecursion P xs → numbered xs n ≡ Some a → P a
all_at P xs zero a all h = absurd cc
all_at P [] (suc k) a all h = absurd cc
all_at P (x ∷ xs) (suc zero) a all h = let e : x ≡ a = cc in subst P e all.0
all_at P (x ∷ xs) (suc (suc k)) a all h = all_at P xs (suc k) a all.1 h

pub all_from : {A : Type 0} (P : A → Type 0) (xs : List A) → ((n : ℕ) (a : A) → numbered xs n ≡ Some a → P a) → AllByRecursion P xs
all_from P [] each = tt
all_from P (x ∷ xs) each = (each 1 x refl, all_from P xs (λ n a h. elim (at_next x xs n a h) [ inl z ↦ absurd z | inr s ↦ each (suc n) a s ]))
  where
    at_next : {A : Type 0} (x : A) (xs : List A) (n : ℕ) (a : A) → numbered xs n ≡ Some a → ⊥ ⊎ (numbered (x ∷ xs) (suc n) ≡ Some a)
    at_next x xs zero a h = inl (absurd cc)
    at_next x xs (suc k) a h = inr h

pub all_append : {A : Type 0} (P : A → Type 0) (xs ys : List A) → AllByRecursion P xs → AllByRecursion P ys → AllByRecursion P (xs ++ ys)
all_append P [] ys a b = b
all_append P (x ∷ xs) ys a b = (a.0, all_append P xs ys a.1 b)

pub all_weaker : {A : Type 0} (P Q : A → Type 0) → ((a : A) → P a → Q a) → (xs : List A) → AllByRecursion P xs → AllByRecursion Q xs
all_weaker P Q f [] a = tt
all_weaker P Q f (x ∷ xs) a = (f x a.0, all_weaker P Q f xs a.1)

pub all_drop : {A : Type 0} (P : A → Type 0) (k : ℕ) (xs : List A) → AllByRecursion P xs → AllByRecursion P (drop k xs)
all_drop P zero xs a = a
all_drop P (suc k) [] a = tt
all_drop P (suc k) (x ∷ xs) a = all_drop P k xs a.1

pub all_map : {A B : Type 0} (P : A → Type 0) (Q : B → Type 0) (f : A → B) → ((a : A) → P a → Q (f a)) → (xs : List A) → AllByRecursion P xs → AllByRecursion Q (map f xs)
all_map P Q f g [] a = tt
all_map P Q f g (x ∷ xs) a = (g x a.0, all_map P Q f g xs a.1)

pub all_cond : {A : Type 0} (P : A → Type 0) (b : Bool) (xs ys : List A) → AllByRecursion P xs → AllByRecursion P ys → AllByRecursion P (cond b xs ys)
all_cond P true xs ys a b = a
all_cond P false xs ys a b = b

pub all_filter : {A : Type 0} (P : A → Type 0) (test : A → Bool) (xs : List A) → AllByRecursion P xs → AllByRecursion P (filter test xs)
all_filter P test [] a = tt
all_filter P test (x ∷ xs) a = all_cond P (test x) (x ∷ filter test xs) (filter test xs) (a.0, all_filter P test xs a.1) (all_filter P test xs a.1)

-- what a search finds passes the test, and is one of the elements
pub find_cases : {A : Type 0} (b : Bool) (x a : A) (rest : Option A) → cond b (Some x) rest ≡ Some a → ((b ≡ true) × (x ≡ a)) ⊎ ((b ≡ false) × (rest ≡ Some a))
find_cases true x a rest h = inl (refl, cc)
find_cases false x a rest h = inr (refl, h)

pub find_passes : {A : Type 0} (test : A → Bool) (xs : List A) (a : A) → find test xs ≡ Some a → test a ≡ true
find_passes test [] a h = absurd cc
find_passes test (x ∷ xs) a h =
    elim (find_cases (test x) x a (find test xs) h) [
      | inl e ↦ subst (λ y. test y ≡ true) e.1 e.0
      | inr e ↦ find_passes test xs a e.1
    ]

pub find_all : {A : Type 0} (P : A → Type 0) (test : A → Bool) (xs : List A) (a : A) → AllByRecursion P xs → find test xs ≡ Some a → P a
find_all P test [] a all h = absurd cc
find_all P test (x ∷ xs) a all h =
    elim (find_cases (test x) x a (find test xs) h) [
      | inl e ↦ subst P e.1 all.0
      | inr e ↦ find_all P test xs a all.1 e.1
    ]

-- a look into a longer list
pub cond_some_goes_on : {A : Type 0} (b : Bool) (x a : A) (r s : Option A) → (r ≡ Some a → s ≡ Some a) → cond b (Some x) r ≡ Some a → cond b (Some x) s ≡ Some a
cond_some_goes_on true x a r s f h = h
cond_some_goes_on false x a r s f h = f h

pub cond_none_goes_on : {A : Type 0} (b : Bool) (x : A) (r s t : Option A) → (r ≡ None → s ≡ t) → cond b (Some x) r ≡ None → cond b (Some x) s ≡ t
cond_none_goes_on true x r s t f h = absurd cc
cond_none_goes_on false x r s t f h = f h

pub find_append : {A : Type 0} (test : A → Bool) (xs ys : List A) (a : A) → find test xs ≡ Some a → find test (xs ++ ys) ≡ Some a
find_append test [] ys a h = absurd cc
find_append test (x ∷ xs) ys a h = cond_some_goes_on (test x) x a (find test xs) (find test (xs ++ ys)) (find_append test xs ys a) h

pub find_beyond : {A : Type 0} (test : A → Bool) (xs ys : List A) → find test xs ≡ None → find test (xs ++ ys) ≡ find test ys
find_beyond test [] ys h = refl
find_beyond test (x ∷ xs) ys h = cond_none_goes_on (test x) x (find test xs) (find test (xs ++ ys)) (find test ys) (find_beyond test xs ys) h
