-- Lists: what is found in a longer one, what passes two tests.
use Rattle.std.proofs.Common.{◌≡◌, ℕ, zero, suc, ◌<◌, Bool, false, cond, List, [], ◌∷◌, ◌++◌, length, Option, Some, None, slice_get, slice_set, refl, ap, ◌∙◌, arith}
use Rattle.std.specs.Prelude.{filter}
use Rattle.std.specs.Prelude.{Result, Ok, Err, IsOk, OnOk, IsSome}
use Rattle.std.specs.List.{AllByRecursion}
use Rattle.std.proofs.lemmas.Bool.{cond-false, false≢true}

pub get_append : {A : Type 0} (xs ys : List A) (k : ℕ) → k < length xs → slice_get (xs ++ ys) k ≡ slice_get xs k
get_append [] ys k h = absurd (omega arith)
get_append (x ∷ xs) ys zero h = refl
get_append (x ∷ xs) ys (suc k) h = get_append xs ys k (omega arith)

pub get_set : {A : Type 0} (xs : List A) (k : ℕ) (b : A) → k < length xs → slice_get (slice_set xs k b) k ≡ Some b
get_set [] k b h = absurd (omega arith)
get_set (x ∷ xs) zero b h = refl
get_set (x ∷ xs) (suc k) b h = get_set xs k b (omega arith)

pub get_set_other : {A : Type 0} (xs : List A) (k m : ℕ) (b : A) → (m ≡ k → ⊥) → slice_get (slice_set xs k b) m ≡ slice_get xs m
get_set_other [] k m b d = refl
get_set_other (x ∷ xs) zero zero b d = absurd (d refl)
get_set_other (x ∷ xs) zero (suc m) b d = refl
get_set_other (x ∷ xs) (suc k) zero b d = refl
get_set_other (x ∷ xs) (suc k) (suc m) b d = get_set_other xs k m b (λ e. d (ap suc e))

pub ok_holds : {T E : Type 0} (r : Result T E) (P : Type 0) → IsOk r → OnOk r P → P
ok_holds (Ok x) P is h = h
ok_holds (Err e) P is h = absurd (false≢true is)

pub none_some : {A : Type 0} (o : Option A) → o ≡ None → IsSome o → ⊥
none_some None e is = false≢true is
none_some (Some x) e is = absurd cc

-- two tests that agree where they are asked keep the same
pub filter_same : {A : Type 0} (f g : A → Bool) (xs : List A) → AllByRecursion (λ x. f x ≡ g x) xs → filter f xs ≡ filter g xs
filter_same f g [] h = refl
filter_same f g (x ∷ xs) h = ap (λ b. cond b (x ∷ filter f xs) (filter f xs)) h.0 ∙ ap (λ ys. cond (g x) (x ∷ ys) ys) (filter_same f g xs h.1)

pub all_true : {A : Type 0} (P : A → Type 0) → ((a : A) → P a) → (xs : List A) → AllByRecursion P xs
all_true P f [] = tt
all_true P f (x ∷ xs) = (f x, all_true P f xs)

pub filter_none : {A : Type 0} (f : A → Bool) (xs : List A) → AllByRecursion (λ x. f x ≡ false) xs → filter f xs ≡ []
filter_none f [] h = refl
filter_none f (x ∷ xs) h = cond-false (f x) (x ∷ filter f xs) (filter f xs) h.0 ∙ filter_none f xs h.1
