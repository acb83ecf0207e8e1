-- What setting a price does, by where the product stands.
use Rattle.std.proofs.Common.{◌≡◌, ℕ, ◌<◌, true, false, cond, leb, List, [], length, set, None, Result, Ok, Err, OnOk, IfErr, IsSome, refl, sym, ap, ◌∙◌, arith}
use Rattle.std.specs.List.{insert}
use Rattle.std.proofs.lemmas.Bool.{false≢true, le-leb}
use Rattle.std.proofs.lemmas.Bool.Decides.{nat_tests}
use Rattle.plan_rules.specs.declared.fault.PlanFault.{PlanFault}
use Rattle.plan_rules.specs.declared.fault.PlanFault.TheVariants.{OutOfMemory, PriceTooLarge, BadProduct, PlanFull, NegativeAmount}
use Rattle.plan_rules.specs.Prices.{Prices, IsInOrder, by_bytes, price_of}
use Rattle.plan_rules.specs.Terms.{IsNoRoom, RefusedFor, most_products, stored}
use Rattle.plan_rules.specs.Searching.{place_in}
use Rattle.plan_rules.proofs.Search.{edited, found}
use Rattle.plan_rules.proofs.ByBytes.{with_price-edited, price_of-found}

no_leb : (a b : ℕ) → b < a → leb a b ≡ false
no_leb a b lt = grind (arith, nat_tests)

module _ (prices : Prices) (product : List ℕ) (price : ℕ) (in_order : IsInOrder prices) where
  -- an old product's price is written over
  pub stored_old : (i : ℕ) → Ok i ≡ place_in by_bytes product prices → stored prices product price ≡ Ok (set prices i (product, price))
  stored_old i at =
      let is = price_of-found prices product in_order ([], 0) ∙ ap (found ([], 0) prices) (sym at) in
      let after = with_price-edited prices product price ∙ ap (edited product price prices) (sym at) in
      rw (is, after) refl

  -- a new product is inserted, if there is room
  pub stored_new : (i : ℕ) → Err i ≡ place_in by_bytes product prices → stored prices product price ≡ cond (leb most_products (length prices)) (Err PlanFull) (Ok (insert prices i (product, price)))
  stored_new i at =
      let is = price_of-found prices product in_order ([], 0) ∙ ap (found ([], 0) prices) (sym at) in
      let after = with_price-edited prices product price ∙ ap (edited product price prices) (sym at) in
      rw (is, after) refl

  pub stored_if_room : (i : ℕ) (r : Result (Unit {0}) PlanFault) (new : Prices) → Err i ≡ place_in by_bytes product prices → OnOk r (new ≡ insert prices i (product, price)) → OnOk r (length prices < most_products)
      → OnOk r (stored prices product price ≡ Ok new)
  stored_if_room i (Err fault) new at is room = tt
  stored_if_room i (Ok done) new at is room =
      let test : leb most_products (length prices) ≡ false = no_leb most_products (length prices) room in
      stored_new i at ∙ ap (λ b. cond b (Err PlanFull) (Ok (insert prices i (product, price)))) test ∙ ap (λ (ps : Prices). Ok ps) (sym is)

  pub refused_for_room : (i : ℕ) (r : Result (Unit {0}) PlanFault) → Err i ≡ place_in by_bytes product prices → IfErr r (λ fault. IsNoRoom fault (length prices)) → IfErr r (λ fault. RefusedFor fault (stored prices product price))
  refused_for_room i (Ok done) at h = tt
  refused_for_room i (Err OutOfMemory) at h = tt
  refused_for_room i (Err PriceTooLarge) at h = absurd h
  refused_for_room i (Err BadProduct) at h = absurd h
  refused_for_room i (Err PlanFull) at h =
      let test : leb most_products (length prices) ≡ true = le-leb most_products (length prices) h in
      stored_new i at ∙ ap (λ b. cond b (Err PlanFull) (Ok (insert prices i (product, price)))) test
  refused_for_room i (Err NegativeAmount) at h = absurd h

  -- a product without a place has no price
  pub unknown_without_place : (i : ℕ) → Err i ≡ place_in by_bytes product prices → IsSome (price_of prices product) → ⊥
  unknown_without_place i at some =
      let is : price_of prices product ≡ None = price_of-found prices product in_order ([], 0) ∙ ap (found ([], 0) prices) (sym at) in
      false≢true (rw is at some)
