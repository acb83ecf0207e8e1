-- The place of a key among entries in order, what a binary search says of it, and what stands there.
use Rattle.std.proofs.Common.{◌≡◌, ℕ, zero, suc, ◌<◌, ◌≤◌, not, cond, List, [], ◌∷◌, length, get_or, set, Option, Some, None, Result, Ok, Err, inl, inr, refl, sym, ap, ◌∙◌, arith}
use Rattle.std.proofs.Math.Dec.{T}
use Rattle.std.specs.declared.cmp.Ordering.{Ordering}
use Rattle.std.specs.declared.cmp.Ordering.TheVariants.{Less, Equal, Greater}
use Rattle.std.specs.List.{insert, remove}
use Rattle.std.specs.List.Sorted.{IsSearchInRange, IsBinarySearchResult, IsNonDecreasingBy}
use Rattle.std.specs.Ordering.{eq_by_cmp, ordering_index, is_eq}
use Rattle.std.specs.Cmp.{IsTotalOrder}
use Rattle.std.specs.FinMap.{IsAntisymmetric, find, put, is_sorted}
use Rattle.std.specs.FinMap.Entries.{by_order, below_all, where_key}
use Rattle.std.proofs.lemmas.Bool.{cases_lt}
use Rattle.plan_rules.specs.Searching.{further, place_in}
use Rattle.plan_rules.proofs.Order.{both_parts, find_below, where_key_below, below_at, sorted_at, greater_from_less, equal_from_equal, less_from_greater, below_all_less, below_all_tied, index_rises}

in_range-further : (r : Result ℕ ℕ) (n : ℕ) → IsSearchInRange r n → IsSearchInRange (further r) (suc n)
in_range-further (Ok i) n h = omega arith
in_range-further (Err i) n h = omega arith

module _ {K X : Type 0} where
  -- the entries with one written or inserted where the search ended
  abbrev pub edited : K → X → List (K × X) → Result ℕ ℕ → List (K × X)
  edited k v es (Ok i) = set es i (k, v)
  edited k v es (Err i) = insert es i (k, v)

  -- the entries without the one that was found
  abbrev pub without_found : List (K × X) → Result ℕ ℕ → List (K × X)
  without_found es (Ok i) = remove es i
  without_found es (Err i) = es

  -- the value that was found
  abbrev pub found : K × X → List (K × X) → Result ℕ ℕ → Option X
  found d es (Ok i) = Some (get_or es i d).1
  found d es (Err i) = None

  edited-further : (k : K) (v : X) (e : K × X) (es : List (K × X)) (r : Result ℕ ℕ) → edited k v (e ∷ es) (further r) ≡ e ∷ edited k v es r
  edited-further k v e es (Ok i) = refl
  edited-further k v e es (Err i) = refl

  without_found-further : (e : K × X) (es : List (K × X)) (r : Result ℕ ℕ) → without_found (e ∷ es) (further r) ≡ e ∷ without_found es r
  without_found-further e es (Ok i) = refl
  without_found-further e es (Err i) = refl

  found-further : (d e : K × X) (es : List (K × X)) (r : Result ℕ ℕ) → found d (e ∷ es) (further r) ≡ found d es r
  found-further d e es (Ok i) = refl
  found-further d e es (Err i) = refl

module _ {K X : Type 0} (R : K → K → Ordering) (p : K) where
  pub place_in-in_range : (es : List (K × X)) → IsSearchInRange (place_in R p es) (length es)
  place_in-in_range [] = omega arith
  place_in-in_range (e ∷ es) =
      elim (R p e.0) as (λ o. IsSearchInRange (by_order o (Err 0) (Ok 0) (further (place_in R p es))) (suc (length es))) [
        | Less ↦ omega arith
        | Equal ↦ omega arith
        | Greater ↦ in_range-further (place_in R p es) (length es) (place_in-in_range es)
      ]

  -- putting writes or inserts at the place
  pub put-edited : IsAntisymmetric R → (v : X) (es : List (K × X)) → put R p v es ≡ edited p v es (place_in R p es)
  put-edited same v [] = refl
  put-edited same v (e ∷ es) =
      elim (R p e.0) as (λ o. R p e.0 ≡ o → by_order o ((p, v) ∷ e ∷ es) ((e.0, v) ∷ es) (e ∷ put R p v es) ≡ edited p v (e ∷ es) (by_order o (Err 0) (Ok 0) (further (place_in R p es)))) [
        | Less ↦ λ is. refl
        | Equal ↦ λ is. ap (λ k. (k, v) ∷ es) (sym (same p e.0 is))
        | Greater ↦ λ is. ap (λ (l : List (K × X)). e ∷ l) (put-edited same v es) ∙ sym (edited-further p v e es (place_in R p es))
      ] refl

  module _ (o : IsTotalOrder R) where
    -- looking up finds what stands at the place
    pub find-found : (d : K × X) (es : List (K × X)) → T (is_sorted R es) → find R p es ≡ found d es (place_in R p es)
    find-found d [] h = refl
    find-found d (e ∷ es) h =
        let parts = both_parts (below_all R e.0 es) (is_sorted R es) h in
        elim (R p e.0) as (λ r. R p e.0 ≡ r → cond (is_eq r) (Some e.1) (find R p es) ≡ found d (e ∷ es) (by_order r (Err 0) (Ok 0) (further (place_in R p es)))) [
          | Less ↦ λ is. find_below R p es (below_all_less R o p e.0 es is parts.0)
          | Equal ↦ λ is. refl
          | Greater ↦ λ is. find-found d es parts.1 ∙ sym (found-further d e es (place_in R p es))
        ] refl

    -- dropping the key removes what stands at the place
    pub where_key-without_found : (es : List (K × X)) → T (is_sorted R es) → where_key R (λ x. not (eq_by_cmp R p x)) es ≡ without_found es (place_in R p es)
    where_key-without_found [] h = refl
    where_key-without_found (e ∷ es) h =
        let parts = both_parts (below_all R e.0 es) (is_sorted R es) h in
        let left = where_key R (λ x. not (eq_by_cmp R p x)) es in
        elim (R p e.0) as (λ r. R p e.0 ≡ r → cond (not (is_eq r)) (e ∷ left) left ≡ without_found (e ∷ es) (by_order r (Err 0) (Ok 0) (further (place_in R p es)))) [
          | Less ↦ λ is. ap (λ (l : List (K × X)). e ∷ l) (where_key_below R p es (below_all_less R o p e.0 es is parts.0))
          | Equal ↦ λ is. where_key_below R p es (below_all_tied R o p e.0 es is parts.0)
          | Greater ↦ λ is. ap (λ (l : List (K × X)). e ∷ l) (where_key-without_found es parts.1) ∙ sym (without_found-further e es (place_in R p es))
        ] refl

    at_key : (es : List (K × X)) → T (is_sorted R es) → (i : ℕ) (d : K × X) → i < length es → R p (get_or es i d).0 ≡ Equal → place_in R p es ≡ Ok i
    at_key [] h i d lt is = absurd (omega arith)
    at_key (e ∷ es) h zero d lt is = ap (λ r. by_order r (Err 0) (Ok 0) (further (place_in R p es))) is
    at_key (e ∷ es) h (suc i) d lt is =
        let parts = both_parts (below_all R e.0 es) (is_sorted R es) h in
        let k = (get_or es i d).0 in
        let above : R p e.0 ≡ Greater = o.congr p k e.0 is ∙ greater_from_less R o e.0 k (below_at R e.0 es parts.0 i d (omega arith)) in
        ap (λ r. by_order r (Err 0) (Ok 0) (further (place_in R p es))) above ∙ ap further (at_key es parts.1 i d (omega arith) is)

    at_gap : (es : List (K × X)) (i : ℕ) (d : K × X) → i ≤ length es → ((j : ℕ) → j < i → R p (get_or es j d).0 ≡ Greater)
        → ((j : ℕ) → i ≤ j → j < length es → R p (get_or es j d).0 ≡ Less) → place_in R p es ≡ Err i
    at_gap [] zero d le before after = refl
    at_gap [] (suc i) d le before after = absurd (omega arith)
    at_gap (e ∷ es) zero d le before after = ap (λ r. by_order r (Err 0) (Ok 0) (further (place_in R p es))) (after 0 (omega arith) (omega arith))
    at_gap (e ∷ es) (suc i) d le before after =
        ap (λ r. by_order r (Err 0) (Ok 0) (further (place_in R p es))) (before 0 (omega arith))
        ∙ ap further (at_gap es i d (omega arith) (λ j lt. before (suc j) (omega arith)) (λ j from lt. after (suc j) (omega arith) (omega arith)))

    comparisons_rise : (es : List (K × X)) → T (is_sorted R es) → IsNonDecreasingBy (λ e. ordering_index (R e.0 p)) es
    comparisons_rise es h i j d le lt =
        elim (cases_lt i j) [
          | inl less ↦ index_rises R o p (get_or es i d).0 (get_or es j d).0 (sorted_at R es h i j d less lt)
          | inr from ↦ let same : i ≡ j = omega arith in rw same (omega arith)
        ]

    -- a binary search ends at the place
    pub search-place_in : (es : List (K × X)) (d : K × X) → T (is_sorted R es) → (r : Result ℕ ℕ) → IsSearchInRange r (length es) → IsBinarySearchResult (λ e. R e.0 p) es r → r ≡ place_in R p es
    search-place_in es d h (Ok i) in_range is = sym (at_key es h i d in_range (equal_from_equal R o (get_or es i d).0 p (is d)))
    search-place_in es d h (Err i) in_range is =
        let parts = is (comparisons_rise es h) in
        sym (at_gap es i d in_range
        (λ j lt. greater_from_less R o (get_or es j d).0 p (parts.0 j d (omega arith) lt))
        (λ j from lt. less_from_greater R o (get_or es j d).0 p (parts.1 j d from lt)))
