-- The terms of a plan and how they change.
use Rattle.std.specs.Prelude.{◌≡◌, ℕ, ℤ, pos, negsuc, ◌≤◌, List, [], length, ◌&&◌, nat_lt, nat_le, is_none, Option, Some, None, All, IsTrue, Result, Ok, Err, if◌then◌else◌}
use Rattle.claim_profile.specs.Money.{largest as largest_amount}
use Rattle.plan_rules.specs.declared.fault.PlanFault.{PlanFault}
use Rattle.plan_rules.specs.declared.fault.PlanFault.TheVariants.{OutOfMemory, PriceTooLarge, BadProduct, PlanFull, NegativeAmount}
use Rattle.plan_rules.specs.Prices.{Prices, IsInOrder, is_product, price_of, with_price, without_product}

-- the most that is paid as a dispensing fee and what the patient pays, in cents, and the prices
pub record Terms : Type 0 where
  pub fee : ℕ
  pub copay : ℕ
  pub prices : Prices

-- the largest fee, copay and price
abbrev pub largest : ℕ
largest = largest_amount

-- the most products that a plan has
abbrev pub most_products : ℕ
most_products = 4096

-- a product with a price that a plan may have
abbrev pub IsPriced : List ℕ × ℕ → Type 0
IsPriced entry = IsTrue (is_product entry.0) × (entry.1 ≤ largest)

-- what holds of the terms of every plan
pub record IsPlan (terms : Terms) : Type 0 where
  pub fee : terms.fee ≤ largest
  pub copay : terms.copay ≤ largest
  pub in_order : IsInOrder terms.prices
  pub few : length terms.prices ≤ most_products
  pub priced : All IsPriced terms.prices

-- a plan without products
abbrev pub opening : ℤ → ℤ → Result Terms PlanFault
opening (pos fee) (pos copay) = Ok (record { fee = fee; copay = copay; prices = [] })
opening (pos fee) (negsuc copay) = Err NegativeAmount
opening (negsuc fee) copay = Err NegativeAmount

-- prices with this one for a product; a new product beside the most that a plan has is refused
abbrev pub stored : Prices → List ℕ → ℕ → Result Prices PlanFault
stored prices product price =
    if is_none (price_of prices product) && nat_le most_products (length prices) then Err PlanFull else Ok (with_price prices product price)

-- the terms with these prices
abbrev pub with_prices : Terms → Result Prices PlanFault → Result Terms PlanFault
with_prices terms (Ok prices) = Ok (record terms { prices = prices })
with_prices terms (Err fault) = Err fault

-- the terms with this price for a product, or the first thing that is wrong with it
abbrev pub repriced : Terms → List ℕ → ℕ → Result Terms PlanFault
repriced terms product price =
    if nat_lt largest price then Err PriceTooLarge else
    if is_product product then with_prices terms (stored terms.prices product price) else Err BadProduct

-- the terms with another fee and another copay, where a plan may have both
abbrev pub retermed : Terms → ℕ → ℕ → Result Terms PlanFault
retermed terms fee copay = if nat_le fee largest && nat_le copay largest then Ok (record terms { fee = fee; copay = copay }) else Err PriceTooLarge

-- a change is refused for this cause; nothing is known of it where memory ran out
abbrev pub RefusedFor : {X : Type 0} → PlanFault → Result X PlanFault → Type 0
RefusedFor OutOfMemory changed = Unit {0}
RefusedFor PriceTooLarge changed = changed ≡ Err PriceTooLarge
RefusedFor BadProduct changed = changed ≡ Err BadProduct
RefusedFor PlanFull changed = changed ≡ Err PlanFull
RefusedFor NegativeAmount changed = changed ≡ Err NegativeAmount

-- one more product beside this many is refused for this cause
abbrev pub IsNoRoom : PlanFault → ℕ → Type 0
IsNoRoom OutOfMemory count = Unit {0}
IsNoRoom PriceTooLarge count = ⊥
IsNoRoom BadProduct count = ⊥
IsNoRoom PlanFull count = most_products ≤ count
IsNoRoom NegativeAmount count = ⊥

-- the terms without a product
abbrev pub cleared : Terms → List ℕ → Terms
cleared terms product = record terms { prices = without_product terms.prices product }

-- a change of a plan: a product has this price or none any more; or the fee and the copay are these
pub data Change : Type 0 where
  SetPrice : (product : List ℕ) → (price : Option ℕ) → Change
  SetTerms : (fee copay : ℕ) → Change

-- the terms after a change, or the first thing that is wrong with it
abbrev pub changed : Terms → Change → Result Terms PlanFault
changed terms (SetPrice product (Some price)) = repriced terms product price
changed terms (SetPrice product None) = Ok (cleared terms product)
changed terms (SetTerms fee copay) = retermed terms fee copay
