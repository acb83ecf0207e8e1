-- Entries in the order of their keys, and a key that is greater than all of them.
use Rattle.std.proofs.Common.{◌≡◌, ℕ, zero, suc, ◌-◌, Bool, true, false, ◌&&◌, List, [], ◌∷◌, ◌++◌, length, Some, refl, sym, ap, subst, ◌∙◌, arith}
use Rattle.std.proofs.Math.Dec.{T}
use Rattle.std.specs.List.{slice_get}
use Rattle.std.specs.declared.cmp.Ordering.{Ordering}
use Rattle.std.specs.declared.cmp.Ordering.TheVariants.{Less, Equal, Greater}
use Rattle.std.specs.Ordering.{is_lt, ordering_reverse}
use Rattle.std.specs.Cmp.{IsTotalOrder}
use Rattle.std.specs.FinMap.{put, is_sorted}
use Rattle.std.specs.FinMap.Entries.{below_all, by_order}

pub less_from_test : (o : Ordering) → is_lt o ≡ true → o ≡ Less
less_from_test Less h = refl
less_from_test Equal h = cc
less_from_test Greater h = cc

less_from : (o : Ordering) (b : Bool) → T (is_lt o && b) → o ≡ Less
less_from Less b h = refl
less_from Equal b h = absurd h
less_from Greater b h = absurd h

both : (a b : Bool) → T (a && b) → T a × T b
both true b h = (tt, h)
both false b h = absurd h

module _ {K X : Type 0} (R : K → K → Ordering) where
  -- each key is less than this one
  abbrev pub AreBelow : K → List (K × X) → Type 0
  AreBelow p [] = Unit {0}
  AreBelow p (e ∷ es) = (R e.0 p ≡ Less) × AreBelow p es

  pub below_at : (p : K) (es : List (K × X)) (i : ℕ) (e : K × X) → AreBelow p es → slice_get es i ≡ Some e → R e.0 p ≡ Less
  below_at p [] i e h at = cc
  below_at p (d ∷ es) zero e h at = let same : d ≡ e = cc in subst (λ (x : K × X). R x.0 p ≡ Less) same h.0
  below_at p (d ∷ es) (suc i) e h at = below_at p es i e h.1 at

  below_mid : (p : K) (front : List (K × X)) (e : K × X) (back : List (K × X)) → T (below_all R p (front ++ e ∷ back)) → R p e.0 ≡ Less
  below_mid p [] e back h = less_from (R p e.0) (below_all R p back) h
  below_mid p (d ∷ front) e back h = below_mid p front e back (both (is_lt (R p d.0)) (below_all R p (front ++ e ∷ back)) h).1

  -- what stands before an entry is below it
  pub below_from_sorted : (front : List (K × X)) (e : K × X) (back : List (K × X)) → T (is_sorted R (front ++ e ∷ back)) → AreBelow e.0 front
  below_from_sorted [] e back h = tt
  below_from_sorted (d ∷ front) e back h =
      let parts = both (below_all R d.0 (front ++ e ∷ back)) (is_sorted R (front ++ e ∷ back)) h in
      (below_mid d.0 front e back parts.0, below_from_sorted front e back parts.1)

  module _ (o : IsTotalOrder R) where
    -- the greatest key goes to the end
    pub put_greatest : (p : K) (v : X) (es : List (K × X)) → AreBelow p es → put R p v es ≡ es ++ (p, v) ∷ []
    put_greatest p v [] h = refl
    put_greatest p v (e ∷ es) h =
        let above : R p e.0 ≡ Greater = o.antisymm p e.0 ∙ ap ordering_reverse h.0 in
        let rest = put_greatest p v es h.1 in
        ap (λ r. by_order r ((p, v) ∷ e ∷ es) ((e.0, v) ∷ es) (e ∷ put R p v es)) above ∙ ap (λ (l : List (K × X)). e ∷ l) rest

    -- what is greater than the last one is greater than all
    pub below_from_last : (p : K) (es : List (K × X)) → T (is_sorted R es) → ((e : K × X) → slice_get es (length es - 1) ≡ Some e → R e.0 p ≡ Less) → AreBelow p es
    below_from_last p [] h last = tt
    below_from_last p (e ∷ []) h last = (last e refl, tt)
    below_from_last p (e ∷ f ∷ es) h last =
        let parts = both (below_all R e.0 (f ∷ es)) (is_sorted R (f ∷ es)) h in
        let n : ℕ = length es in
        let shorter : suc (suc n) - 1 ≡ suc n = omega arith in
        let shortest : suc n - 1 ≡ n = omega arith in
        let rest = below_from_last p (f ∷ es) parts.1 (λ l at. last l (ap (slice_get (e ∷ f ∷ es)) shorter ∙ sym (ap (slice_get (f ∷ es)) shortest) ∙ at)) in
        (o.trans e.0 f.0 p (less_from (R e.0 f.0) (below_all R e.0 es) parts.0) rest.0, rest)
