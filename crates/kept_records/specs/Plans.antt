-- The products of a plan, as they are read.
use Rattle.std.specs.Prelude.{ℕ, ◌-◌, Bool, true, List, length, slice_get, Option, Some, None, Result, Ok}
use Rattle.std.specs.Ordering.{is_lt}
use Rattle.std.specs.Result.{result_ok}
use Rattle.plan_rules.specs.Prices.{Prices, by_bytes}
use Rattle.plan_rules.specs.Terms.{Terms, repriced}
use Rattle.kept_records.specs.declared.fault.RecordFault.{RecordFault}
use Rattle.kept_records.specs.declared.fault.RecordFault.TheVariants.{BadRecord}
use Rattle.kept_records.specs.Faults.{◌>>=◌, some_or, when_or}
use Rattle.kept_records.specs.Products.{product_codec}

-- the product is greater than this one, in byte order
abbrev pub is_after : List ℕ → Option (List ℕ × ℕ) → Bool
is_after product None = true
is_after product (Some before) = is_lt (by_bytes before.0 product)

-- the product is greater than the last one
abbrev pub is_next : Prices → List ℕ → Bool
is_next prices product = is_after product (slice_get prices (length prices - 1))

-- the plan with the product that stands at the front of the bytes, and what follows it, or what is wrong with it
unfoldable pub listed : ℕ → Terms → List ℕ → Result (Terms × List ℕ) RecordFault
listed place plan bytes = do
  product ← some_or (BadRecord place) (product_codec.at bytes)
  next ← when_or (BadRecord place) (is_next plan.prices product.0.0) product
  new ← some_or (BadRecord place) (result_ok (repriced plan next.0.0 next.0.1))
  Ok (new, next.1)
