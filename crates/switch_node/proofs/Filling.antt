-- A value written at a key, as a map over the entries.
use Rattle.std.proofs.Common.{◌≡◌, Bool, true, false, cond, List, [], ◌∷◌, map, Some, None, refl, sym, ap, ◌∙◌}
use Rattle.std.specs.List.{IsDistinct, AllByRecursion}
use Rattle.std.specs.Map.{keys_of, lookup, set_value, IsKeyTest}

none_is_some : {X : Type 0} {x : X} → None ≡ Some x → ⊥
none_is_some e = cc

module _ {K X : Type 0} (t : K → Bool) (f : X → X) where
  -- an entry with the new value, where its key passes
  abbrev pub changed : K × X → K × X
  changed e = cond (t e.0) (e.0, f e.1) e

  pub changed-none : (es : List (K × X)) → lookup t es ≡ None → map changed es ≡ es
  changed-none [] none = refl
  changed-none (e ∷ es) none = by (t e.0) none (λ n. changed-none es n)
    where
      by : (b : Bool) → cond b (Some e.1) (lookup t es) ≡ None → (lookup t es ≡ None → map changed es ≡ es) → cond b (e.0, f e.1) e ∷ map changed es ≡ e ∷ es
      by true n rest = absurd (none_is_some (sym n))
      by false n rest = ap (λ l. e ∷ l) (rest n)

  -- only one key passes, so the value that was found is the one that changes
  pub changed-found : {R : K → K → Bool} → IsKeyTest R t → (es : List (K × X)) (v : X) → IsDistinct R (keys_of es) → lookup t es ≡ Some v → set_value t es (f v) ≡ map changed es
  unfolding IsDistinct
  changed-found {R} key [] v distinct found = absurd (none_is_some found)
  changed-found {R} key (e ∷ es) v distinct found =
      by (t e.0) refl found (λ n. changed-found key es v distinct.1 n)
    where
      none_later : (ks : List (K × X)) → t e.0 ≡ true → AllByRecursion (λ y. R e.0 y ≡ false) (keys_of ks) → lookup t ks ≡ None
      none_later [] p h = refl
      none_later (k ∷ ks) p h = ap (λ b. cond b (Some k.1) (lookup t ks)) (key e.0 k.0 p ∙ h.0) ∙ none_later ks p h.1

      by : (b : Bool) → t e.0 ≡ b → cond b (Some e.1) (lookup t es) ≡ Some v → (lookup t es ≡ Some v → set_value t es (f v) ≡ map changed es) → cond b ((e.0, f v) ∷ es) (e ∷ set_value t es (f v)) ≡ cond b (e.0, f e.1) e ∷ map changed es
      by true p n rest =
          let same : e.1 ≡ v = cc in
          let others : map changed es ≡ es = changed-none es (none_later es p distinct.0) in
          λ j. (e.0, f (sym same j)) ∷ sym others j
      by false p n rest = ap (λ l. e ∷ l) (rest n)

  pub keys-changed : (es : List (K × X)) → keys_of (map changed es) ≡ keys_of es
  keys-changed [] = refl
  keys-changed (e ∷ es) = by (t e.0) (keys-changed es)
    where
      by : (b : Bool) → keys_of (map changed es) ≡ keys_of es → keys_of (cond b (e.0, f e.1) e ∷ map changed es) ≡ keys_of (e ∷ es)
      by true rest = ap (λ l. e.0 ∷ l) rest
      by false rest = ap (λ l. e.0 ∷ l) rest
