-- The price of a product among those of a plan.
use Rattle.std.proofs.Common.{◌≡◌, ℕ, zero, suc, ◌+◌, Bool, true, false, cond, List, [], ◌∷◌, drop, refl, sym, ap, ◌∙◌, add-one}
use Rattle.std.specs.Prelude.{slice_get, bytes_eq, Option, Some, None}
use Rattle.plan_rules.specs.Prices.{Prices}
use Rattle.log_audit.specs.Prices.{listed_price, price_if}

first_is : (b : Bool) (found other : Option ℕ) (price : ℕ) → cond b found None ≡ Some price → cond b found other ≡ Some price
first_is true found other price is = is
first_is false found other price is = cc

-- the product at a place is the first that is this one
pub listed_here : (prices : Prices) (i : ℕ) (product : List ℕ) (price : ℕ) → price_if (slice_get prices i) product ≡ Some price → listed_price (drop i prices) product ≡ Some price
listed_here [] i product price is = cc
listed_here (entry ∷ more) zero product price is = first_is (bytes_eq entry.0 product) (Some entry.1) (listed_price more product) price is
listed_here (entry ∷ more) (suc i) product price is = listed_here more i product price is

not_first : (b : Bool) (price : ℕ) (other : Option ℕ) → cond b (Some price) None ≡ None → cond b (Some price) other ≡ other
not_first true price other is = cc
not_first false price other is = refl

next_by : (prices : Prices) (i : ℕ) (product : List ℕ) → price_if (slice_get prices i) product ≡ None → listed_price (drop i prices) product ≡ listed_price (drop (suc i) prices) product
next_by [] zero product none = refl
next_by [] (suc i) product none = refl
next_by (entry ∷ more) zero product none = not_first (bytes_eq entry.0 product) entry.1 (listed_price more product) none
next_by (entry ∷ more) (suc i) product none = next_by more i product none

-- or it stands after
pub listed_behind : (prices : Prices) (i : ℕ) (product : List ℕ) (whole : Option ℕ) → price_if (slice_get prices i) product ≡ None → listed_price (drop i prices) product ≡ whole
    → listed_price (drop (i + 1) prices) product ≡ whole
listed_behind prices i product whole none so_far =
    ap (λ (n : ℕ). listed_price (drop n prices) product) (add-one i) ∙ (sym (next_by prices i product none) ∙ so_far)
