-- What begins other bytes, and what stands after a common beginning.
use Rattle.std.proofs.Common.{◌≡◌, ℕ, zero, suc, ◌+◌, ◌-◌, ◌≤◌, List, [], ◌∷◌, ◌++◌, length, take, refl, sym, ap, ◌∙◌, subst, arith, append_assoc, append-nil, length-append}
use Rattle.std.specs.List.{AllByRecursion}
use Rattle.std.proofs.lemmas.List.{take_at}
use Rattle.std.proofs.Math.Seq.{take-append-add}
use Rattle.node_process.specs.Safe.{IsStartOf}

pub all_of : (bytes : List ℕ) → IsStartOf bytes bytes
all_of bytes = record { rest = []; is = append-nil bytes }

pub same_start : (front bytes : List ℕ) → front ≡ bytes → IsStartOf front bytes
same_start front bytes e = subst (IsStartOf front) e (all_of front)

pub start_with : (front bytes more : List ℕ) → IsStartOf front bytes → IsStartOf front (bytes ++ more)
start_with front bytes more s = record { rest = s.rest ++ more; is = sym (append_assoc front s.rest more) ∙ ap (λ (x : List ℕ). x ++ more) s.is }

pub through : (a b c : List ℕ) → IsStartOf a b → IsStartOf b c → IsStartOf a c
through a b c s t = record { rest = s.rest ++ t.rest; is = sym (append_assoc a s.rest t.rest) ∙ (ap (λ (x : List ℕ). x ++ t.rest) s.is ∙ t.is) }

pub first_of : (front bytes : List ℕ) → IsStartOf front bytes → front ≡ take (length front) bytes
first_of front bytes s = sym (ap (take (length front)) (sym s.is) ∙ take_at front s.rest (length front) refl)

pub start_length : (front bytes : List ℕ) → IsStartOf front bytes → length front ≤ length bytes
start_length front bytes s = let e = length-append front s.rest in let f = ap length s.is in omega (arith, e, f)

pub start_taken : (front bytes : List ℕ) (n : ℕ) → IsStartOf front bytes → length front ≤ n → IsStartOf front (take n bytes)
start_taken front bytes n s le =
    let m = n - length front in
    let e : n ≡ length front + m = omega (arith, le) in
    record { rest = take m s.rest; is = sym (ap (take n) (sym s.is) ∙ (ap (λ k. take k (front ++ s.rest)) e ∙ take-append-add front s.rest m)) }

pub take_none : (n : ℕ) → take {A = ℕ} n [] ≡ []
take_none zero = refl
take_none (suc n) = refl

pub same_behind : {A : Type 0} (xs ys zs : List A) → xs ++ ys ≡ xs ++ zs → ys ≡ zs
same_behind [] ys zs e = e
same_behind (x ∷ xs) ys zs e = same_behind xs ys zs cc

pub all_behind : {A : Type 0} (P : A → Type 0) (xs ys : List A) → AllByRecursion P (xs ++ ys) → AllByRecursion P ys
all_behind P [] ys a = a
all_behind P (x ∷ xs) ys a = all_behind P xs ys a.1
