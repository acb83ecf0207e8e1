-- Entries in the order of their keys, and one key p among them.
use Rattle.std.proofs.Common.{◌≡◌, ℕ, zero, suc, ◌<◌, ◌≤◌, Bool, true, false, not, ◌&&◌, List, [], ◌∷◌, length, get_or, Some, None, cond, refl, sym, ap, subst, ◌∙◌, arith}
use Rattle.std.proofs.Math.Dec.{T}
use Rattle.std.specs.declared.cmp.Ordering.{Ordering}
use Rattle.std.specs.declared.cmp.Ordering.TheVariants.{Less, Equal, Greater}
use Rattle.std.specs.Ordering.{is_lt, is_eq, eq_by_cmp, ordering_index, ordering_reverse}
use Rattle.std.specs.Cmp.{IsTotalOrder}
use Rattle.std.specs.FinMap.{find, is_sorted}
use Rattle.std.specs.FinMap.Entries.{below_all, where_key}

pub T-from_true : (b : Bool) → b ≡ true → T b
T-from_true true h = tt
T-from_true false h = cc

pub true-from_T : (b : Bool) → T b → b ≡ true
true-from_T true h = refl
true-from_T false h = absurd h

pub both_parts : (a b : Bool) → T (a && b) → T a × T b
both_parts true b h = (tt, h)
both_parts false b h = absurd h

module _ {K : Type 0} (R : K → K → Ordering) (o : IsTotalOrder R) where
  -- the two directions of a comparison
  pub greater_from_less : (x y : K) → R x y ≡ Less → R y x ≡ Greater
  greater_from_less x y h = o.antisymm y x ∙ ap ordering_reverse h

  pub less_from_greater : (x y : K) → R x y ≡ Greater → R y x ≡ Less
  less_from_greater x y h = o.antisymm y x ∙ ap ordering_reverse h

  pub equal_from_equal : (x y : K) → R x y ≡ Equal → R y x ≡ Equal
  equal_from_equal x y h = o.antisymm y x ∙ ap ordering_reverse h

  -- comparisons with p rise along rising keys
  pub index_rises : (p x y : K) → R x y ≡ Less → ordering_index (R x p) ≤ ordering_index (R y p)
  index_rises p x y lt =
      elim (R x p) as (λ r. R x p ≡ r → ordering_index r ≤ ordering_index (R y p)) [
        | Less ↦ λ is. omega arith
        | Equal ↦ λ is. let above = greater_from_less p y (sym (o.congr x p y is) ∙ lt) in rw above (omega arith)
        | Greater ↦ λ is. let above = greater_from_less p y (o.trans p x y (less_from_greater x p is) lt) in rw above (omega arith)
      ] refl

module _ {K X : Type 0} (R : K → K → Ordering) where
  -- a key below each key of a list is not found there
  pub find_below : (p : K) (es : List (K × X)) → T (below_all R p es) → find R p es ≡ None
  find_below p [] h = refl
  find_below p (e ∷ es) h =
      elim (R p e.0) as (λ o. T (is_lt o && below_all R p es) → cond (is_eq o) (Some e.1) (find R p es) ≡ None) [
        | Less ↦ λ h. find_below p es h
        | Equal ↦ λ h. absurd h
        | Greater ↦ λ h. absurd h
      ] h

  -- and none has to go with it
  pub where_key_below : (p : K) (es : List (K × X)) → T (below_all R p es) → where_key R (λ x. not (eq_by_cmp R p x)) es ≡ es
  where_key_below p [] h = refl
  where_key_below p (e ∷ es) h =
      let left = where_key R (λ x. not (eq_by_cmp R p x)) es in
      elim (R p e.0) as (λ o. T (is_lt o && below_all R p es) → cond (not (is_eq o)) (e ∷ left) left ≡ e ∷ es) [
        | Less ↦ λ h. ap (λ (l : List (K × X)). e ∷ l) (where_key_below p es h)
        | Equal ↦ λ h. absurd h
        | Greater ↦ λ h. absurd h
      ] h

  -- a key is below each key of a list that it is below all of
  pub below_at : (p : K) (es : List (K × X)) → T (below_all R p es) → (i : ℕ) (d : K × X) → i < length es → R p (get_or es i d).0 ≡ Less
  below_at p [] h i d lt = absurd (omega arith)
  below_at p (e ∷ es) h zero d lt =
      elim (R p e.0) as (λ o. T (is_lt o && below_all R p es) → o ≡ Less) [ Less ↦ λ h. refl | Equal ↦ λ h. absurd h | Greater ↦ λ h. absurd h ] h
  below_at p (e ∷ es) h (suc i) d lt = below_at p es (both_parts (is_lt (R p e.0)) (below_all R p es) h).1 i d (omega arith)

  -- each key is below those after it
  pub sorted_at : (es : List (K × X)) → T (is_sorted R es) → (i j : ℕ) (d : K × X) → i < j → j < length es → R (get_or es i d).0 (get_or es j d).0 ≡ Less
  sorted_at [] h i j d lt in_range = absurd (omega arith)
  sorted_at (e ∷ es) h i zero d lt in_range = absurd (omega arith)
  sorted_at (e ∷ es) h zero (suc j) d lt in_range = below_at e.0 es (both_parts (below_all R e.0 es) (is_sorted R es) h).0 j d (omega arith)
  sorted_at (e ∷ es) h (suc i) (suc j) d lt in_range = sorted_at es (both_parts (below_all R e.0 es) (is_sorted R es) h).1 i j d (omega arith) (omega arith)

  module _ (o : IsTotalOrder R) where
    -- what is below a key below all is below all
    pub below_all_less : (p y : K) (es : List (K × X)) → R p y ≡ Less → T (below_all R y es) → T (below_all R p es)
    below_all_less p y [] lt h = tt
    below_all_less p y (e ∷ es) lt h =
        elim (R y e.0) as (λ r. R y e.0 ≡ r → T (is_lt r && below_all R y es) → T (is_lt (R p e.0) && below_all R p es)) [
          | Less ↦ λ is h. subst (λ r. T (is_lt r && below_all R p es)) (sym (o.trans p y e.0 lt is)) (below_all_less p y es lt h)
          | Equal ↦ λ is h. absurd h
          | Greater ↦ λ is h. absurd h
        ] refl h

    -- and so is what ties with it
    pub below_all_tied : (p y : K) (es : List (K × X)) → R p y ≡ Equal → T (below_all R y es) → T (below_all R p es)
    below_all_tied p y [] tied h = tt
    below_all_tied p y (e ∷ es) tied h =
        let parts = both_parts (is_lt (R y e.0)) (below_all R y es) h in
        let rest = below_all_tied p y es tied parts.1 in
        elim (R y e.0) as (λ r. R y e.0 ≡ r → T (is_lt r) → T (is_lt (R p e.0) && below_all R p es)) [
          | Less ↦ λ is lt. subst (λ r. T (is_lt r && below_all R p es)) (sym (o.congr p y e.0 tied ∙ is)) rest
          | Equal ↦ λ is lt. absurd lt
          | Greater ↦ λ is lt. absurd lt
        ] refl parts.0
