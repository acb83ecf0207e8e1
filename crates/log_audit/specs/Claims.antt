-- What a pharmacy asked for.
use Rattle.std.specs.Prelude.{ℕ, ◌-◌, nat_lt, List, [], length, Option, Some, None, Result, Ok, Err, if◌then◌else◌}
use Rattle.d0_header.specs.Request.{Request}
use Rattle.d0_segments.specs.Parts.{TransmissionParts}
use Rattle.d0_segments.specs.Framing.{request_kind, transmission_of}
use Rattle.claim_profile.specs.Readable.{readable_header}
use Rattle.claim_profile.specs.Order.{placed_order}
use Rattle.claim_profile.specs.declared.order.Claim.{Claim as Billing}
use Rattle.claim_profile.specs.declared.order.Order.{Order}
use Rattle.claim_profile.specs.declared.order.Order.TheVariants.{Claim, Reversal}
use Rattle.claim_profile.specs.declared.order_reading.OrderFault.{OrderFault}
use Rattle.log_audit.specs.declared.tables.claims.ClaimTexts.{ClaimTexts}

-- a billing, where an order is one
abbrev pub billing_in : Result Order OrderFault → Option Billing
billing_in (Ok (Claim billing)) = Some billing
billing_in (Ok (Reversal reversal)) = None
billing_in (Err fault) = None

-- the billing of the transaction at a place, from 0
abbrev pub billing_at : Option (TransmissionParts Request) → ℕ → Option Billing
billing_at None place = None
billing_at (Some t) place = if nat_lt place (length t.groups) then billing_in (placed_order t place) else None

abbrev pub billing_under : Option Request → Option (TransmissionParts Request) → ℕ → Option Billing
billing_under None framed place = None
billing_under (Some header) framed place = billing_at framed place

-- the billing of a transaction, from 1, of a readable request
abbrev pub claim_asked : List ℕ → ℕ → Option Billing
claim_asked request transaction = billing_under (readable_header request) (transmission_of request_kind request) (transaction - 1)

-- what is told of it: the cardholder, the product, the quantity in thousandths of a unit, and the cost and the fee that were submitted, in cents
pub record ClaimShown : Type 0 where
  pub cardholder : List ℕ
  pub product : List ℕ
  pub quantity : Option ℕ
  pub cost : Option ℕ
  pub fee : Option ℕ

abbrev pub claim_seen : ClaimTexts → ClaimShown
claim_seen t = record { cardholder = t.cardholder.now; product = t.product.now; quantity = t.quantity; cost = t.cost; fee = t.fee }

abbrev pub claim_shown : Option Billing → ClaimShown
claim_shown None = record { cardholder = []; product = []; quantity = None; cost = None; fee = None }
claim_shown (Some c) = record { cardholder = c.cardholder; product = c.product; quantity = Some c.quantity; cost = Some c.cost; fee = Some c.fee }
