-- Texts that end where they say: what stands at the front tells of what it is the text, and what follows it.
use Rattle.std.proofs.Common.{◌≡◌, ℕ, List, [], ◌∷◌, ◌++◌, length, Option, Some, refl, sym, ap, ◌∙◌, arith, append_assoc}
use Rattle.std.specs.List.{AllByRecursion, flat_map}
use Rattle.codec.specs.Fields.{u64_at}
use Rattle.codec.proofs.FieldsBack.{u64_at-put}
use Rattle.kept_logs.specs.Fields.{text_of, text_at}
use Rattle.kept_logs.proofs.FieldsBack.{text_at-put}
use Rattle.settings_digest.specs.Said.{number_text, list_text}
use Rattle.settings_digest.specs.Fits.{FitsNumber, FitsText, FitsList}

-- two texts that are the same with what is after them are texts of the same, and the same is after them
pub record Apart {A : Type 0} (Fits : A → Type 0) (text : A → List ℕ) : Type 0 where
  pub tells : (x y : A) (r s : List ℕ) → Fits x → Fits y → text x ++ r ≡ text y ++ s → (x ≡ y) × (r ≡ s)

same_some : {A : Type 0} (x y : A) (r s : List ℕ) → ◌≡◌ {A = Option (A × List ℕ)} (Some (x, r)) (Some (y, s)) → (x ≡ y) × (r ≡ s)
same_some {A} x y r s h = let e : ◌≡◌ {A = A × List ℕ} (x, r) (y, s) = cc in (ap (λ (p : A × List ℕ). p.0) e, ap (λ (p : A × List ℕ). p.1) e)

-- what is read back
read_back : {A : Type 0} (Fits : A → Type 0) (text : A → List ℕ) (at : List ℕ → Option (A × List ℕ)) → ((x : A) (rest : List ℕ) → Fits x → at (text x ++ rest) ≡ Some (x, rest)) → Apart Fits text
read_back Fits text at back = record { tells = λ x y r s f g h. same_some x y r s (sym (back x r f) ∙ (ap at h ∙ back y s g)) }

pub number_apart : Apart FitsNumber number_text
unfolding number_text
number_apart = read_back FitsNumber number_text u64_at (λ n rest f. u64_at-put n rest f)

pub text_apart : Apart FitsText text_of
text_apart = read_back FitsText text_of text_at (λ t rest f. text_at-put t rest f)

same_pair : {A B : Type 0} (x y : A × B) → x.0 ≡ y.0 → x.1 ≡ y.1 → x ≡ y
same_pair {A} {B} x y e f = let a : ◌≡◌ {A = A × B} (x.0, x.1) (y.0, x.1) = ap (λ (z : A). (z, x.1)) e in let b : ◌≡◌ {A = A × B} (y.0, x.1) (y.0, y.1) = ap (λ (z : B). (y.0, z)) f in a ∙ b

-- one after the other
pub both : {A B : Type 0} {P : A → Type 0} {Q : B → Type 0} {f : A → List ℕ} {g : B → List ℕ} → Apart P f → Apart Q g → Apart {A = A × B} (λ p. P p.0 × Q p.1) (λ p. f p.0 ++ g p.1)
both {A} {B} {P} {Q} {f} {g} a b = record {
  tells = λ x y r s u v h.
      let first = a.tells x.0 y.0 (g x.1 ++ r) (g y.1 ++ s) u.0 v.0 (sym (append_assoc (f x.0) (g x.1) r) ∙ (h ∙ append_assoc (f y.0) (g y.1) s)) in
      let second = b.tells x.1 y.1 r s u.1 v.1 first.1 in
      (same_pair x y first.0 second.0, second.1);
}

-- what is known by its parts
pub by_parts : {A B : Type 0} {P : A → Type 0} {f : A → List ℕ} (parts : B → A) (whole : A → B) → ((x : B) → whole (parts x) ≡ x) → Apart P f → Apart {A = B} (λ x. P (parts x)) (λ x. f (parts x))
by_parts parts whole same a = record {
  tells = λ x y r s u v h.
      let p = a.tells (parts x) (parts y) r s u v h in
      (sym (same x) ∙ (ap whole p.0 ∙ same y), p.1);
}

items_apart : {A : Type 0} (P : A → Type 0) (f : A → List ℕ) → Apart P f → (xs ys : List A) (r s : List ℕ) → length xs ≡ length ys → AllByRecursion P xs → AllByRecursion P ys → flat_map f xs ++ r ≡ flat_map f ys ++ s → (xs ≡ ys) × (r ≡ s)
items_apart P f a [] [] r s n u v h = (refl, h)
items_apart P f a [] (y ∷ ys) r s n u v h = absurd (omega (arith, n))
items_apart P f a (x ∷ xs) [] r s n u v h = absurd (omega (arith, n))
items_apart {A} P f a (x ∷ xs) (y ∷ ys) r s n u v h =
    let first = a.tells x y (flat_map f xs ++ r) (flat_map f ys ++ s) u.0 v.0 (sym (append_assoc (f x) (flat_map f xs) r) ∙ (h ∙ append_assoc (f y) (flat_map f ys) s)) in
    let more = items_apart P f a xs ys r s (omega (arith, n)) u.1 v.1 first.1 in
    (ap (λ (z : A). z ∷ xs) first.0 ∙ ap (λ (zs : List A). y ∷ zs) more.0, more.1)

-- a list after its length
pub listed : {A : Type 0} {P : A → Type 0} {f : A → List ℕ} → Apart P f → Apart (FitsList P) (list_text f)
unfolding list_text
listed {A} {P} {f} a = record {
  tells = λ xs ys r s u v h.
      let n = number_apart.tells (length xs) (length ys) (flat_map f xs ++ r) (flat_map f ys ++ s) u.0 v.0
      (sym (append_assoc (number_text (length xs)) (flat_map f xs) r) ∙ (h ∙ append_assoc (number_text (length ys)) (flat_map f ys) s)) in
      items_apart P f a xs ys r s n.0 u.1 v.1 n.1;
}
