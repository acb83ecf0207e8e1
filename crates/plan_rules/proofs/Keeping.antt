-- What holds of every plan's terms still holds after a change of prices.
use Rattle.std.proofs.Common.{◌≡◌, ℕ, suc, ◌+◌, ◌≤◌, Bool, true, false, not, ◌&&◌, cond, leb, List, [], ◌∷◌, length, Option, Some, None, is_some, is_none, Result, Ok, Err, OnOk, OnErr, IsTrue, All, refl, sym, subst, arith}
use Rattle.std.specs.declared.cmp.Ordering.{Ordering}
use Rattle.std.specs.declared.cmp.Ordering.TheVariants.{Less, Equal, Greater}
use Rattle.std.specs.List.{filter}
use Rattle.std.specs.Ordering.{eq_by_cmp}
use Rattle.std.specs.Cmp.Lexicographic.{nat_list_cmp_total}
use Rattle.std.specs.FinMap.{IsAntisymmetric, slice_cmp-IsAntisymmetric, nat_cmp-IsAntisymmetric, is_sorted}
use Rattle.std.specs.FinMap.Entries.{by_order, put, is_sorted-put, is_sorted-where_key, length-put}
use Rattle.std.proofs.lemmas.Bool.{leb-false}
use Rattle.std.proofs.lemmas.List.Elements.{All-cons, All-head, All-tail, All-filter}
use Rattle.plan_rules.specs.declared.fault.PlanFault.{PlanFault}
use Rattle.plan_rules.specs.declared.fault.PlanFault.TheVariants.{PlanFull}
use Rattle.plan_rules.specs.Prices.{Prices, by_bytes, is_product, price_of, with_price, without_product}
use Rattle.plan_rules.specs.Terms.{Terms, IsPlan, IsPriced, largest, most_products, stored}
use Rattle.plan_rules.proofs.Order.{T-from_true, true-from_T}

All-put : {K X : Type 0} (R : K → K → Ordering) (same : IsAntisymmetric R) (P : K × X → Type 0) (k : K) (v : X) (es : List (K × X)) → P (k, v) → All P es → All P (put R k v es)
All-put R same P k v [] new all = All-cons P (k, v) [] new all
All-put R same P k v (e ∷ es) new all =
    let rest = All-tail P e es all in
    elim (R k e.0) as (λ o. R k e.0 ≡ o → All P (by_order o ((k, v) ∷ e ∷ es) ((e.0, v) ∷ es) (e ∷ put R k v es))) [
      | Less ↦ λ is. All-cons P (k, v) (e ∷ es) new all
      | Equal ↦ λ is. All-cons P (e.0, v) es (subst (λ q. P (q, v)) (same k e.0 is) new) rest
      | Greater ↦ λ is. All-cons P e (put R k v es) (All-head P e es all) (All-put R same P k v es new rest)
    ] refl

length-filter-le : {X : Type 0} (p : X → Bool) (xs : List X) → length (filter p xs) ≤ length xs
length-filter-le p [] = omega arith
length-filter-le p (x ∷ xs) =
    let rest = length-filter-le p xs in
    elim (p x) as (λ b. length (cond b (x ∷ filter p xs) (filter p xs)) ≤ suc (length xs)) [ true ↦ omega arith | false ↦ omega arith ]

-- a price is stored in a place that is there, or beside fewer products than the most
few-stored : (found : Option ℕ) (n m : ℕ) (all new : Prices) → n ≤ most_products → m ≡ cond (is_some found) n (n + 1)
    → cond (is_none found && leb most_products n) (Err PlanFull) (Ok all) ≡ Ok new → (m ≤ most_products) × (all ≡ new)
few-stored (Some price) n m all new few is kept = (omega arith, cc)
few-stored None n m all new few is kept =
    elim (leb most_products n) as (λ b. leb most_products n ≡ b → cond b (Err PlanFull) (Ok all) ≡ Ok new → (m ≤ most_products) × (all ≡ new)) [
      | true ↦ λ test refused. absurd (cc)
      | false ↦ λ test same. (omega (arith, leb-false most_products n test), cc)
    ] refl kept

pub keeps_storing : (terms : Terms) (product : List ℕ) (price : ℕ) (new : Prices) → IsPlan terms → IsTrue (is_product product) → price ≤ largest → stored terms.prices product price ≡ Ok new
    → IsPlan (record { fee = terms.fee; copay = terms.copay; prices = new })
keeps_storing terms product price new is good small kept =
    let in_order = T-from_true (is_sorted by_bytes terms.prices) is.in_order in
    let all = with_price terms.prices product price in
    let longer = length-put by_bytes nat_list_cmp_total product price terms.prices in_order in
    let room = few-stored (price_of terms.prices product) (length terms.prices) (length all) all new is.few longer kept in
    subst (λ (ps : Prices). IsPlan (record { fee = terms.fee; copay = terms.copay; prices = ps })) room.1 (record {
      fee = is.fee;
      copay = is.copay;
      in_order = true-from_T (is_sorted by_bytes all) (is_sorted-put by_bytes nat_list_cmp_total product price terms.prices in_order);
      few = room.0;
      priced = All-put by_bytes (slice_cmp-IsAntisymmetric nat_cmp-IsAntisymmetric) IsPriced product price terms.prices (good, small) is.priced;
    })

-- whether the price was stored or refused
pub keeps_setting : (terms : Terms) (product : List ℕ) (price : ℕ) (r : Result (Unit {0}) PlanFault) (new : Prices) → IsPlan terms → IsTrue (is_product product) → price ≤ largest
    → OnOk r (stored terms.prices product price ≡ Ok new) → OnErr r (new ≡ terms.prices) → IsPlan (record { fee = terms.fee; copay = terms.copay; prices = new })
keeps_setting terms product price (Ok done) new is good small ok err = keeps_storing terms product price new is good small ok
keeps_setting terms product price (Err fault) new is good small ok err =
    subst (λ (ps : Prices). IsPlan (record { fee = terms.fee; copay = terms.copay; prices = ps })) (sym err) is

-- what passed the test for a product is one
pub is_product-passed : (bytes text : List ℕ) → Some text ≡ cond (is_product bytes) (Some bytes) None → IsTrue (is_product text)
is_product-passed bytes text is =
    elim (is_product bytes) as (λ b. is_product bytes ≡ b → Some text ≡ cond b (Some bytes) None → IsTrue (is_product text)) [
      | true ↦ λ test some. let same : text ≡ bytes = cc in rw same test
      | false ↦ λ test none. absurd (cc)
    ] refl is

pub keeps_clearing : (terms : Terms) (product : List ℕ) → IsPlan terms → IsPlan (record { fee = terms.fee; copay = terms.copay; prices = without_product terms.prices product })
keeps_clearing terms product is = record {
  fee = is.fee;
  copay = is.copay;
  in_order = true-from_T _ (is_sorted-where_key by_bytes (λ other. not (eq_by_cmp by_bytes product other)) terms.prices (T-from_true _ is.in_order));
  few = omega (arith, is.few, length-filter-le (λ (e : List ℕ × ℕ). not (eq_by_cmp by_bytes product e.0)) terms.prices);
  priced = All-filter (λ (e : List ℕ × ℕ). not (eq_by_cmp by_bytes product e.0)) IsPriced terms.prices is.priced;
}
