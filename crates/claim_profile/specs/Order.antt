-- What a transaction asks for, told by the lists of all values of its fields.
use Rattle.std.specs.Prelude.{ℕ, ℤ, pos, negsuc, nat_le, List, [], ◌∷◌, length, slice_index_or, Option, Some, None, is_some, is_none, option_map, option_and_then, Result, Ok, Err, codes, if◌then◌else◌}
use Rattle.std.specs.Result.{result_ok}
use Rattle.std.specs.Str.{bytes_eq}
use Rattle.overpunch.specs.Number.{number_of}
use Rattle.overpunch.specs.Amount.{amount_of}
use Rattle.d0_header.specs.Request.{Request}
use Rattle.d0_header.specs.Date.{is_calendar_date}
use Rattle.d0_segments.specs.Parts.{SegmentParts, TransmissionParts}
use Rattle.claim_profile.specs.declared.reject.Code.{Code}
use Rattle.claim_profile.specs.declared.reject.Code.TheVariants as code
use Rattle.claim_profile.specs.declared.transaction.TransactionCode.{TransactionCode}
use Rattle.claim_profile.specs.declared.transaction.TransactionCode.TheVariants as kind
use Rattle.claim_profile.specs.declared.order.Fill.{Fill}
use Rattle.claim_profile.specs.declared.order.Claim.{Claim}
use Rattle.claim_profile.specs.declared.order.Reversal.{Reversal}
use Rattle.claim_profile.specs.declared.order.Order.{Order}
use Rattle.claim_profile.specs.declared.order.Order.TheVariants as order
use Rattle.claim_profile.specs.declared.order_fields.ClaimFields.{ClaimFields}
use Rattle.claim_profile.specs.declared.order_fields.ReversalFields.{ReversalFields}
use Rattle.claim_profile.specs.declared.order_reading.OrderFault.{OrderFault}
use Rattle.claim_profile.specs.declared.order_reading.OrderFault.TheVariants.{Rejected}
use Rattle.claim_profile.specs.Fields.{values_in, texts_in, required, optional}
use Rattle.claim_profile.specs.Reject.{first_five_held}
use Rattle.claim_profile.specs.Transaction.{transaction_code}

infixl 10 ◌>>=◌
abbrev pub ◌>>=◌ : {A B : Type 0} → Option A → (A → Option B) → Option B
o >>= f = option_and_then f o

-- ---- tests of a value

-- a text of at most this many bytes
abbrev pub text_up_to : ℕ → List ℕ → Option (List ℕ)
text_up_to limit value = if nat_le (length value) limit then Some value else None

-- a number of at most this many digits
abbrev pub number_up_to : ℕ → List ℕ → Option ℕ
number_up_to digits value = result_ok (number_of digits value)

-- cents that are not negative
abbrev pub not_negative : ℤ → Option ℕ
not_negative (pos cents) = Some cents
not_negative (negsuc below) = None

-- an amount that is not negative
abbrev pub amount_in_cents : List ℕ → Option ℕ
amount_in_cents value = do
  cents ← result_ok (amount_of value)
  not_negative cents

-- this text and no other
abbrev pub the_text : List ℕ → List ℕ → Option (List ℕ)
the_text expected value = if bytes_eq value expected then Some value else None

-- ---- the parts of an order

-- the header's date, where it is a day
abbrev pub day_of_service : Request → Option (List ℕ)
day_of_service h = if is_calendar_date h.date then Some h.date else None

-- a field that stands beside a qualifier, where the qualifier is this one
abbrev pub qualified : {A : Type 0} → List ℕ → List (List ℕ) → Option A → Option A
qualified expected qualifiers field = if is_some (required (the_text expected) qualifiers) then field else None

-- the prescription number, with the qualifier of prescription billing
abbrev pub prescription_in : List SegmentParts → Option ℕ
prescription_in group = qualified (codes "1") (texts_in (codes "07") (codes "EM") group) (required (number_up_to 12) (values_in (codes "07") (codes "D2") group))

-- the product, with the qualifier of national drug codes
abbrev pub product_in : List SegmentParts → Option (List ℕ)
product_in group = qualified (codes "03") (texts_in (codes "07") (codes "E1") group) (required (text_up_to 19) (texts_in (codes "07") (codes "D7") group))

unfoldable pub claim_fields : Request → (shared group : List SegmentParts) → ClaimFields
claim_fields h shared group = record {
  cardholder = required (text_up_to 20) (texts_in (codes "04") (codes "C2") shared);
  date = day_of_service h;
  prescription = prescription_in group;
  fill = required (number_up_to 2) (values_in (codes "07") (codes "D3") group);
  product = product_in group;
  quantity = required (number_up_to 10) (values_in (codes "07") (codes "E7") group);
  cost = required amount_in_cents (values_in (codes "11") (codes "D9") group);
  fee = optional 0 amount_in_cents (values_in (codes "11") (codes "DC") group);
}

unfoldable pub reversal_fields : Request → List SegmentParts → ReversalFields
reversal_fields h group = record {
  date = day_of_service h;
  prescription = prescription_in group;
  fill = optional None (λ value. option_map (λ (n : ℕ). Some n) (number_up_to 2 value)) (values_in (codes "07") (codes "D3") group);
}

-- ---- the order, or its reject codes

-- the fill of a header, a prescription and a fill number
abbrev pub fill_of : Request → ℕ → ℕ → Fill
fill_of h prescription fill = record { bin = h.bin; pcn = h.pcn; qualifier = h.qualifier; provider = h.provider; prescription = prescription; fill = fill }

-- the claim, where each of its fields is valid
unfoldable pub claim_of : Request → ClaimFields → Option Claim
claim_of h f = do
  cardholder ← f.cardholder
  date ← f.date
  prescription ← f.prescription
  fill ← f.fill
  product ← f.product
  quantity ← f.quantity
  cost ← f.cost
  fee ← f.fee
  Some (record { fill = fill_of h prescription fill; date = date; cardholder = cardholder; product = product; quantity = quantity; cost = cost; fee = fee })

-- the codes of the fields that are not valid, in order, the first five
unfoldable pub claim_codes : ClaimFields → List Code
claim_codes f = first_five_held (
    (is_none f.cardholder, code.Cardholder)
    ∷ (is_none f.date, code.DateOfService)
    ∷ (is_none f.prescription, code.Prescription)
    ∷ (is_none f.fill, code.FillNumber)
    ∷ (is_none f.product, code.Product)
    ∷ (is_none f.quantity, code.Quantity)
    ∷ (is_none f.cost, code.IngredientCost)
    ∷ (is_none f.fee, code.DispensingFee)
    ∷ [])

-- the reversal, where each of its fields is valid
unfoldable pub reversal_of : Request → ReversalFields → Option Reversal
reversal_of h f = do
  date ← f.date
  prescription ← f.prescription
  fill ← f.fill
  Some (record { bin = h.bin; pcn = h.pcn; qualifier = h.qualifier; provider = h.provider; prescription = prescription; fill = fill; date = date })

unfoldable pub reversal_codes : ReversalFields → List Code
reversal_codes f = first_five_held (
    (is_none f.date, code.DateOfService)
    ∷ (is_none f.prescription, code.Prescription)
    ∷ (is_none f.fill, code.FillNumber)
    ∷ [])

-- an order, or the codes with which it is rejected
abbrev pub or_rejected : Option Order → List Code → Result Order OrderFault
or_rejected (Some order) codes = Ok order
or_rejected None codes = Err (Rejected codes)

-- what a claim of these segments is
unfoldable pub claim_order : Request → (shared group : List SegmentParts) → Result Order OrderFault
claim_order h shared group = or_rejected (option_map order.Claim (claim_of h (claim_fields h shared group))) (claim_codes (claim_fields h shared group))

-- what a reversal of these segments is
unfoldable pub reversal_order : Request → List SegmentParts → Result Order OrderFault
reversal_order h group = or_rejected (option_map order.Reversal (reversal_of h (reversal_fields h group))) (reversal_codes (reversal_fields h group))

-- what a transaction of this kind asks for: a billing for a claim, a reversal for one. Of no kind that is carried it asks
-- for a service that is not covered; a readable request is none such
abbrev pub order_as : Option TransactionCode → Request → (shared group : List SegmentParts) → Result Order OrderFault
order_as (Some kind.Billing) h shared group = claim_order h shared group
order_as (Some kind.Reversal) h shared group = reversal_order h group
order_as None h shared group = Err (Rejected (code.NotCovered ∷ []))

-- what a transaction asks for, by its header's code
unfoldable pub order_of : Request → (shared group : List SegmentParts) → Result Order OrderFault
order_of h shared group = order_as (transaction_code h.code) h shared group

-- the order of the transaction at a place of a request, from 0
abbrev pub placed_order : TransmissionParts Request → ℕ → Result Order OrderFault
placed_order t place = order_of t.header t.shared (slice_index_or t.groups place [])
