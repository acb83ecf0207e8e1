-- What a plan pays for a claim.
use Rattle.std.specs.Prelude.{ℕ, ◌+◌, ◌-◌, ◌*◌, ◌/◌, min, Option}
use Rattle.std.specs.Option.{option_map}
use Rattle.claim_profile.specs.declared.order.Claim.{Claim}
use Rattle.claim_profile.specs.Money.{Money}
use Rattle.plan_rules.specs.Prices.{price_of}
use Rattle.plan_rules.specs.Terms.{Terms, largest}

-- the worth in whole cents of thousandths of a unit at ten-thousandths of a dollar a unit
abbrev pub worth : ℕ → ℕ → ℕ
worth quantity price = quantity * price / 100000

-- dispensing fee paid: no more than asked for, and no more than the plan's
abbrev pub fee_paid : Terms → Claim → ℕ
fee_paid terms claim = min claim.fee terms.fee

-- ingredient cost paid: no more than asked for, than the product is worth, and than leaves the sum with the fee an amount
abbrev pub cost_paid : Terms → Claim → ℕ → ℕ
cost_paid terms claim price = min (min claim.cost (worth claim.quantity price)) (largest - fee_paid terms claim)

-- what the patient pays: the copay, but no more than there is to pay
abbrev pub patient_pays : Terms → Claim → ℕ → ℕ
patient_pays terms claim price = min terms.copay (cost_paid terms claim price + fee_paid terms claim)

-- the four amounts for a claim whose product has this price
abbrev pub amounts_at : Terms → Claim → ℕ → Money
amounts_at terms claim price = record {
  cost = cost_paid terms claim price;
  fee = fee_paid terms claim;
  copay = patient_pays terms claim price;
  total = cost_paid terms claim price + fee_paid terms claim - patient_pays terms claim price;
}

-- the amounts for a claim whose product is on the plan
abbrev pub paid : Terms → Claim → Option Money
paid terms claim = option_map (amounts_at terms claim) (price_of terms.prices claim.product)
