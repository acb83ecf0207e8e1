-- The fields of an order, from what is known of their values.
use Rattle.std.specs.Prelude.{ℕ, List, Option, Some, None, is_some, option_map, option_and_then, codes, if◌then◌else◌}
use Rattle.d0_header.specs.Request.{Request}
use Rattle.claim_profile.specs.declared.order_fields.ClaimFields.{ClaimFields}
use Rattle.claim_profile.specs.declared.order_fields.ReversalFields.{ReversalFields}
use Rattle.claim_profile.specs.Tally.{Tally, Absent, Single, Many, the_one}
use Rattle.claim_profile.specs.OrderTally.{OrderTally}
use Rattle.claim_profile.specs.Order.{text_up_to, number_up_to, amount_in_cents, the_text, day_of_service}

-- what a required field holds
abbrev pub required_seen : {A : Type 0} → (List ℕ → Option A) → Tally → Option A
required_seen test tally = option_and_then test (the_one tally)

-- what an optional field holds
abbrev pub optional_seen : {A : Type 0} → A → (List ℕ → Option A) → Tally → Option A
optional_seen absent test Absent = Some absent
optional_seen absent test (Single value) = test value
optional_seen absent test Many = None

-- a field that stands beside a qualifier, where the qualifier is this one
abbrev pub qualified_seen : {A : Type 0} → List ℕ → Tally → Option A → Option A
qualified_seen expected qualifier field = if is_some (required_seen (the_text expected) qualifier) then field else None

abbrev pub prescription_seen : OrderTally → Option ℕ
prescription_seen t = qualified_seen (codes "1") t.prescription_qualifier (required_seen (number_up_to 12) t.prescription)

abbrev pub product_seen : OrderTally → Option (List ℕ)
product_seen t = qualified_seen (codes "03") t.product_qualifier (required_seen (text_up_to 19) t.product)

abbrev pub fee_seen : Tally → Option ℕ
fee_seen t = optional_seen 0 amount_in_cents t

abbrev pub fill_seen : Tally → Option (Option ℕ)
fill_seen t = optional_seen None (λ value. option_map (λ (n : ℕ). Some n) (number_up_to 2 value)) t

abbrev pub claim_seen : Request → OrderTally → ClaimFields
claim_seen h t = record {
  cardholder = required_seen (text_up_to 20) t.cardholder;
  date = day_of_service h;
  prescription = prescription_seen t;
  fill = required_seen (number_up_to 2) t.fill;
  product = product_seen t;
  quantity = required_seen (number_up_to 10) t.quantity;
  cost = required_seen amount_in_cents t.cost;
  fee = fee_seen t.fee;
}

abbrev pub reversal_seen : Request → OrderTally → ReversalFields
reversal_seen h t = record {
  date = day_of_service h;
  prescription = prescription_seen t;
  fill = fill_seen t.fill;
}
