-- The products that are read are those that stand there, in order, and the products of a plan are read.
use Rattle.std.proofs.Common.{◌≡◌, ℕ, zero, suc, ◌+◌, ◌-◌, ◌<◌, ◌≤◌, ◌^◌, Bool, true, false, ◌&&◌, cond, nat_lt, nat_le, is_none, List, [], ◌∷◌, ◌++◌, length, Option, Some, None, Result, Ok, Err, All, refl, sym, ap, subst, ◌∙◌, append_assoc, length-append, arith}
use Rattle.std.proofs.lemmas.Bool.Decides.{nat_tests}
use Rattle.std.proofs.lemmas.List.{append-nil}
use Rattle.std.proofs.lemmas.List.Elements.{All-nil, All-cons, All-head, All-tail}
use Rattle.std.proofs.Math.Dec.{T}
use Rattle.std.specs.List.{slice_get}
use Rattle.std.specs.Ordering.{is_lt}
use Rattle.std.specs.Result.{result_ok}
use Rattle.std.specs.Cmp.Lexicographic.{nat_list_cmp_total}
use Rattle.std.specs.FinMap.{is_sorted}
use Rattle.std.specs.FinMap.Entries.{is_sorted-put}
use Rattle.plan_rules.specs.declared.fault.PlanFault.TheVariants.{PriceTooLarge, BadProduct, PlanFull}
use Rattle.plan_rules.specs.Prices.{Prices, IsInOrder, by_bytes, is_product, price_of, with_price}
use Rattle.plan_rules.specs.Terms.{Terms, IsPriced, largest, most_products, with_prices, repriced}
use Rattle.kept_records.specs.declared.fault.RecordFault.{RecordFault}
use Rattle.kept_records.specs.declared.fault.RecordFault.TheVariants.{BadRecord}
use Rattle.kept_records.specs.Faults.{◌>>=◌, some_or, when_or, each_in}
use Rattle.kept_records.specs.Products.{product_codec, products_text}
use Rattle.kept_records.specs.Plans.{is_after, is_next, listed}
use Rattle.codec.specs.Laws.{AreBytes, IsTaken}
use Rattle.codec.proofs.CodecLaws.{both_taken}
use Rattle.kept_records.proofs.Chains.{some_or_then, when_or_then, result_then, ok_same, from_result_ok}
use Rattle.kept_records.proofs.Formats.{product_is, product_fits}
use Rattle.kept_records.proofs.Ordered.{AreBelow, less_from_test, below_at, below_from_sorted, put_greatest, below_from_last}

-- the plan with these prices
abbrev pub priced_as : Terms → Prices → Terms
priced_as plan prices = record { fee = plan.fee; copay = plan.copay; prices = prices }

T-from_true : (b : Bool) → b ≡ true → T b
T-from_true true h = tt
T-from_true false h = cc

true-from_T : (b : Bool) → T b → b ≡ true
true-from_T true h = refl
true-from_T false h = absurd h

-- a price that is set
repriced_is : (plan new : Terms) (product : List ℕ) (price : ℕ) → repriced plan product price ≡ Ok new → IsPriced (product, price) × (priced_as plan (with_price plan.prices product price) ≡ new)
repriced_is plan new product price h = by_tests (nat_lt largest price) (is_product product) (is_none (price_of plan.prices product) && nat_le most_products (length plan.prices)) refl refl h
  where
    small_from : (n : ℕ) → nat_lt largest n ≡ false → n ≤ largest
    small_from n t = grind (arith, nat_tests)

    by_tests : (large good full : Bool) → nat_lt largest price ≡ large → is_product product ≡ good
        → cond large (Err PriceTooLarge) (cond good (with_prices plan (cond full (Err PlanFull) (Ok (with_price plan.prices product price)))) (Err BadProduct)) ≡ Ok new
        → IsPriced (product, price) × (priced_as plan (with_price plan.prices product price) ≡ new)
    by_tests true good full a b h = cc
    by_tests false false full a b h = cc
    by_tests false true true a b h = cc
    by_tests false true false a b h = ((b, small_from price a), cc)

repriced_again : (plan : Terms) (product : List ℕ) (price : ℕ) → IsPriced (product, price) → length plan.prices < most_products → repriced plan product price ≡ Ok (priced_as plan (with_price plan.prices product price))
repriced_again plan product price good room =
    rw (small price good.1, good.0, free (is_none (price_of plan.prices product)) (length plan.prices) room) refl
  where
    small : (n : ℕ) → n ≤ largest → nat_lt largest n ≡ false
    small n h = grind (arith, nat_tests)

    free : (b : Bool) (n : ℕ) → n < most_products → (b && nat_le most_products n) ≡ false
    free true n h = grind (arith, nat_tests)
    free false n h = refl

module _ (prices : Prices) (product : List ℕ) where
  below_from_next : IsInOrder prices → is_next prices product ≡ true → AreBelow by_bytes product prices
  below_from_next in_order next =
      below_from_last by_bytes nat_list_cmp_total product prices (T-from_true (is_sorted by_bytes prices) in_order)
      (λ e at. less_from_test (by_bytes e.0 product) (rw at at next))

  next_from_below : AreBelow by_bytes product prices → is_next prices product ≡ true
  next_from_below below = by_last (slice_get prices (length prices - 1)) refl
    where
      by_last : (o : Option (List ℕ × ℕ)) → slice_get prices (length prices - 1) ≡ o → is_after product o ≡ true
      by_last None at = refl
      by_last (Some e) at = ap is_lt (below_at by_bytes product prices (length prices - 1) e below at)

-- the plan has one product more, which stands at the front of the bytes
pub record IsListed (plan new : Terms) (bytes rest : List ℕ) : Type 0 where
  pub entry : List ℕ × ℕ
  pub is : new ≡ priced_as plan (plan.prices ++ entry ∷ [])
  pub taken : IsTaken bytes (product_codec.text entry) rest
  pub in_order : IsInOrder (plan.prices ++ entry ∷ [])
  pub priced : IsPriced entry

listed_is : (place : ℕ) (plan new : Terms) (bytes rest : List ℕ) → AreBytes bytes → IsInOrder plan.prices → listed place plan bytes ≡ Ok (new, rest) → IsListed plan new bytes rest
unfolding listed
listed_is place plan new bytes rest are in_order h =
    let a = some_or_then (BadRecord place) (product_codec.at bytes) (λ product. when_or (BadRecord place) (is_next plan.prices product.0.0) product >>= λ next. some_or (BadRecord place) (result_ok (repriced plan next.0.0 next.0.1)) >>= λ changed. Ok (changed, next.1)) (new, rest) h in
    let p : (List ℕ × ℕ) × List ℕ = a.0 in
    let b = when_or_then (BadRecord place) (is_next plan.prices p.0.0) p (λ next. some_or (BadRecord place) (result_ok (repriced plan next.0.0 next.0.1)) >>= λ changed. Ok (changed, next.1)) (new, rest) a.2 in
    let c = some_or_then (BadRecord place) (result_ok (repriced plan p.0.0 p.0.1)) (λ changed. Ok (changed, p.1)) (new, rest) b.1 in
    made p.0 p.1 c.0 a.1 b.0 (from_result_ok (repriced plan p.0.0 p.0.1) c.0 c.1) (ok_same (c.0, p.1) (new, rest) c.2)
  where
    made : (entry : List ℕ × ℕ) (tail : List ℕ) (changed : Terms) → product_codec.at bytes ≡ Some (entry, tail) → is_next plan.prices entry.0 ≡ true → repriced plan entry.0 entry.1 ≡ Ok changed
        → ◌≡◌ {A = Terms × List ℕ} (changed, tail) (new, rest) → IsListed plan new bytes rest
    made entry tail changed found next set same =
        let below = below_from_next plan.prices entry.0 in_order next in
        let grown : with_price plan.prices entry.0 entry.1 ≡ plan.prices ++ entry ∷ [] = put_greatest by_bytes nat_list_cmp_total entry.0 entry.1 plan.prices below in
        let is = repriced_is plan changed entry.0 entry.1 set in
        let sorted : IsInOrder (plan.prices ++ entry ∷ []) =
        subst (λ (ps : Prices). IsInOrder ps) grown (true-from_T (is_sorted by_bytes (with_price plan.prices entry.0 entry.1)) (is_sorted-put by_bytes nat_list_cmp_total entry.0 entry.1 plan.prices (T-from_true (is_sorted by_bytes plan.prices) in_order))) in
        subst (λ (x : Terms × List ℕ). IsListed plan x.0 bytes x.1) same (record {
          entry = entry;
          is = sym is.1 ∙ ap (priced_as plan) grown;
          taken = (product_is.only bytes entry tail are found).0;
          in_order = sorted;
          priced = is.0;
        })

-- the plan has these products more, which stand at the front of the bytes
pub record AreListed (plan new : Terms) (count : ℕ) (bytes rest : List ℕ) : Type 0 where
  pub more : Prices
  pub is : new ≡ priced_as plan (plan.prices ++ more)
  pub taken : IsTaken bytes (products_text more) rest
  pub counted : length more ≡ count
  pub in_order : IsInOrder new.prices
  pub priced : All IsPriced more

pub products_are : (total left : ℕ) (plan new : Terms) (bytes rest : List ℕ) → AreBytes bytes → IsInOrder plan.prices → each_in listed total left plan bytes ≡ Ok (new, rest) → AreListed plan new left bytes rest
unfolding each_in
products_are total zero plan new bytes rest are in_order h =
    let same : ◌≡◌ {A = Terms × List ℕ} (plan, bytes) (new, rest) = ok_same (plan, bytes) (new, rest) h in
    subst (λ (x : Terms × List ℕ). AreListed plan x.0 zero bytes x.1) same (record {
      more = [];
      is = ap (priced_as plan) (sym (append-nil plan.prices));
      taken = record { all = refl; rest_bytes = are };
      counted = refl;
      in_order = in_order;
      priced = All-nil IsPriced;
    })
products_are total (suc left) plan new bytes rest are in_order h =
    let a = result_then (listed (total - length bytes) plan bytes) (λ next. each_in listed total left next.0 next.1) (new, rest) h in
    let first = listed_is (total - length bytes) plan a.0.0 bytes a.0.1 are in_order a.1 in
    let sorted : IsInOrder a.0.0.prices = subst (λ (t : Terms). IsInOrder t.prices) (sym first.is) first.in_order in
    let others = products_are total left a.0.0 new a.0.1 rest first.taken.rest_bytes sorted a.2 in
    joined a.0.0 a.0.1 first others
  where
    joined : (between : Terms) (mid : List ℕ) → IsListed plan between bytes mid → AreListed between new left mid rest → AreListed plan new (suc left) bytes rest
    joined between mid first others = record {
      more = first.entry ∷ others.more;
      is = others.is ∙ ap (λ (t : Terms). priced_as t (t.prices ++ others.more)) first.is ∙ ap (priced_as plan) (append_assoc plan.prices (first.entry ∷ []) others.more);
      taken = both_taken bytes (product_codec.text first.entry) mid (products_text others.more) rest first.taken others.taken;
      counted = ap suc others.counted;
      in_order = others.in_order;
      priced = All-cons IsPriced first.entry others.more first.priced others.priced;
    }

-- a product after lesser ones is listed
listed_again : (place : ℕ) (plan : Terms) (entry : List ℕ × ℕ) (rest : List ℕ) → IsPriced entry → AreBelow by_bytes entry.0 plan.prices → length plan.prices < most_products
    → listed place plan (product_codec.text entry ++ rest) ≡ Ok (priced_as plan (plan.prices ++ entry ∷ []), rest)
unfolding listed
listed_again place plan entry rest good below room =
    let set : repriced plan entry.0 entry.1 ≡ Ok (priced_as plan (plan.prices ++ entry ∷ [])) = repriced_again plan entry.0 entry.1 good room ∙ ap (λ (ps : Prices). Ok (priced_as plan ps)) (put_greatest by_bytes nat_list_cmp_total entry.0 entry.1 plan.prices below) in
    rw (product_is.back entry rest (product_fits entry good), next_from_below plan.prices entry.0 below, set) refl

pub products_again : (total : ℕ) (plan : Terms) (more : Prices) (rest : List ℕ) → IsInOrder (plan.prices ++ more) → All IsPriced more → length (plan.prices ++ more) ≤ most_products
    → each_in listed total (length more) plan (products_text more ++ rest) ≡ Ok (priced_as plan (plan.prices ++ more), rest)
unfolding each_in
products_again total plan [] rest in_order good few = ap (λ (ps : Prices). Ok (priced_as plan ps, rest)) (sym (append-nil plan.prices))
products_again total plan (entry ∷ more) rest in_order good few =
    let tail : List ℕ = products_text more ++ rest in
    let between : Terms = priced_as plan (plan.prices ++ entry ∷ []) in
    let regrouped : products_text (entry ∷ more) ++ rest ≡ product_codec.text entry ++ tail = append_assoc (product_codec.text entry) (products_text more) rest in
    let split : between.prices ++ more ≡ plan.prices ++ entry ∷ more = append_assoc plan.prices (entry ∷ []) more in
    let below = below_from_sorted by_bytes plan.prices entry more (T-from_true (is_sorted by_bytes (plan.prices ++ entry ∷ more)) in_order) in
    let longer : length (plan.prices ++ entry ∷ more) ≡ length plan.prices + suc (length more) = length-append plan.prices (entry ∷ more) in
    let first = listed_again (total - length (product_codec.text entry ++ tail)) plan entry tail (All-head IsPriced entry more good) below (omega arith) in
    let others = products_again total between more rest (subst (λ (ps : Prices). IsInOrder ps) (sym split) in_order) (All-tail IsPriced entry more good) (subst (λ (ps : Prices). length ps ≤ most_products) (sym split) few) in
    ap (λ (bytes : List ℕ). each_in listed total (suc (length more)) plan bytes) regrouped
    ∙ stepped (listed (total - length (product_codec.text entry ++ tail)) plan (product_codec.text entry ++ tail)) first
    ∙ others ∙ ap (λ (ps : Prices). Ok (priced_as plan ps, rest)) split
  where
    stepped : (r : Result (Terms × List ℕ) RecordFault) → r ≡ Ok (priced_as plan (plan.prices ++ entry ∷ []), products_text more ++ rest)
        → (r >>= λ next. each_in listed total (length more) next.0 next.1) ≡ each_in listed total (length more) (priced_as plan (plan.prices ++ entry ∷ [])) (products_text more ++ rest)
    stepped r is = rw is refl
