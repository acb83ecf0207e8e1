-- Billings and reversals of one transaction: what their parts say, and the segments that they spell.
use Rattle.std.specs.Prelude.{◌≡◌, ◌≢◌, ℕ, ℤ, pos, ◌^◌, ◌≤ℤ◌, nat_le, nat_lt, Bool, true, false, ◌||◌, ◌==◌, List, [], ◌∷◌, ◌++◌, length, Option, Some, None, codes, if◌then◌else◌}
use Rattle.std.specs.List.{list_any}
use Rattle.std.specs.Int.RustNames.{unsigned_abs}
use Rattle.overpunch.specs.Number.{number_text}
use Rattle.overpunch.specs.Amount.{IsAmount, amount_text}
use Rattle.d0_header.specs.Request.{Request, IsRequest}
use Rattle.d0_header.specs.Date.{is_calendar_date}
use Rattle.d0_segments.specs.Separators.{is_separator}
use Rattle.d0_segments.specs.Parts.{FieldParts, SegmentParts, TransmissionParts}
use Rattle.d0_segments.specs.Framing.{request_kind, transmission_text}
use Rattle.claim_profile.specs.declared.building.BuildFault.{BuildFault}
use Rattle.claim_profile.specs.declared.building.BuildFault.TheVariants.{OutOfMemory, FieldTooLong, Separator}
use Rattle.claim_profile.specs.declared.building.BillingParts.{BillingParts}
use Rattle.claim_profile.specs.declared.building.ReversalParts.{ReversalParts}
use Rattle.claim_profile.specs.declared.order.Claim.{Claim}
use Rattle.claim_profile.specs.declared.order.Reversal.{Reversal}
use Rattle.claim_profile.specs.declared.transaction.TransactionCode.TheVariants as kind
use Rattle.claim_profile.specs.Transaction.{code_bytes}
use Rattle.claim_profile.specs.Answer.{field, segment}
use Rattle.claim_profile.specs.Order.{fill_of}

-- what a billing says
pub record Billing : Type 0 where
  pub header : Request
  pub cardholder : List ℕ
  pub prescription : ℕ
  pub fill : ℕ
  pub product : List ℕ
  pub quantity : ℕ
  pub cost : ℤ
  pub fee : ℤ

-- what a reversal says
pub record Reversing : Type 0 where
  pub header : Request
  pub prescription : ℕ
  pub fill : Option ℕ
  pub product : List ℕ

-- what the parts of a billing say, without the places of their texts in memory
abbrev pub billing_said : BillingParts → Billing
billing_said p = record {
  header = p.header;
  cardholder = p.cardholder.now;
  prescription = p.prescription;
  fill = p.fill;
  product = p.product.now;
  quantity = p.quantity;
  cost = p.cost;
  fee = p.fee;
}

-- what the parts of a reversal say
abbrev pub reversal_said : ReversalParts → Reversing
reversal_said p = record { header = p.header; prescription = p.prescription; fill = p.fill; product = p.product.now }

-- ---- the segments

-- the insurance segment: the cardholder
unfoldable pub insurance_segment : List ℕ → SegmentParts
insurance_segment cardholder = segment (codes "04") (field (codes "C2") cardholder ∷ [])

-- the fields of a prescription, a fill number, where there is one, and a product
abbrev pub dispensing_fields : ℕ → Option ℕ → List ℕ → List FieldParts
dispensing_fields prescription (Some fill) product =
    field (codes "EM") (codes "1")
    ∷ field (codes "D2") (number_text prescription)
    ∷ field (codes "D3") (number_text fill)
    ∷ field (codes "E1") (codes "03")
    ∷ field (codes "D7") product
    ∷ []
dispensing_fields prescription None product =
    field (codes "EM") (codes "1")
    ∷ field (codes "D2") (number_text prescription)
    ∷ field (codes "E1") (codes "03")
    ∷ field (codes "D7") product
    ∷ []

-- the claim segment of a billing: the quantity after those
unfoldable pub billed_segment : ℕ → ℕ → List ℕ → ℕ → SegmentParts
billed_segment prescription fill product quantity = segment (codes "07") (dispensing_fields prescription (Some fill) product ++ field (codes "E7") (number_text quantity) ∷ [])

-- the claim segment of a reversal
unfoldable pub reversed_segment : ℕ → Option ℕ → List ℕ → SegmentParts
reversed_segment prescription fill product = segment (codes "07") (dispensing_fields prescription fill product)

-- the pricing segment: ingredient cost and dispensing fee
unfoldable pub submitted_segment : ℤ → ℤ → SegmentParts
submitted_segment cost fee = segment (codes "11") (field (codes "D9") (amount_text cost) ∷ field (codes "DC") (amount_text fee) ∷ [])

-- the segments of the transaction that a billing asks for
abbrev pub billing_group : Billing → List SegmentParts
billing_group b = billed_segment b.prescription b.fill b.product b.quantity ∷ submitted_segment b.cost b.fee ∷ []

-- the segments of the transaction that a reversal asks for
abbrev pub reversal_group : Reversing → List SegmentParts
reversal_group r = reversed_segment r.prescription r.fill r.product ∷ []

-- a billing: the insurance segment for all transactions, and one transaction
abbrev pub billing_parts : Billing → TransmissionParts Request
billing_parts b = record { header = b.header; shared = insurance_segment b.cardholder ∷ []; groups = billing_group b ∷ [] }

-- a reversal: no segment for all transactions, and one transaction
abbrev pub reversal_parts : Reversing → TransmissionParts Request
reversal_parts r = record { header = r.header; shared = []; groups = reversal_group r ∷ [] }

-- the text of a billing
unfoldable pub billing_text : Billing → List ℕ
billing_text b = transmission_text request_kind (billing_parts b)

-- the text of a reversal
unfoldable pub reversal_text : Reversing → List ℕ
reversal_text r = transmission_text request_kind (reversal_parts r)

-- ---- the faults

-- whether a number has more than this many digits
abbrev pub has_more_digits : ℕ → ℕ → Bool
has_more_digits digits number = nat_le (10 ^ digits) number

-- whether a fill number, where there is one, has more than two digits
abbrev pub is_fill_too_long : Option ℕ → Bool
is_fill_too_long None = false
is_fill_too_long (Some fill) = has_more_digits 2 fill

-- whether a part of a billing is longer than its field
abbrev pub is_billing_too_long : Billing → Bool
is_billing_too_long b =
    nat_lt 20 (length b.cardholder) || has_more_digits 12 b.prescription || has_more_digits 2 b.fill || nat_lt 19 (length b.product) || has_more_digits 10 b.quantity

-- whether a part of a reversal is longer than its field
abbrev pub is_reversal_too_long : Reversing → Bool
is_reversal_too_long r = has_more_digits 12 r.prescription || is_fill_too_long r.fill || nat_lt 19 (length r.product)

-- whether a separator stands in a text
abbrev pub has_separator : List ℕ → Bool
has_separator text = list_any is_separator text

-- the first fault of parts: one that is too long, else a separator in a text
abbrev pub part_fault : (too_long with_separator : Bool) → Option BuildFault
part_fault too_long with_separator = if too_long then Some FieldTooLong else (if with_separator then Some Separator else None)

-- what is wrong with the parts of a billing
unfoldable pub billing_fault : Billing → Option BuildFault
billing_fault b = part_fault (is_billing_too_long b) (has_separator b.cardholder || has_separator b.product)

-- what is wrong with the parts of a reversal
unfoldable pub reversal_fault : Reversing → Option BuildFault
reversal_fault r = part_fault (is_reversal_too_long r) (has_separator r.product)

-- what an error says of the parts: want of memory, that nothing is wrong with them
abbrev pub told : BuildFault → Option BuildFault
told OutOfMemory = None
told fault = Some fault

-- ---- what the caller hands

-- whether a text ends in a space
abbrev pub ends_in_space : List ℕ → Bool
ends_in_space [] = false
ends_in_space (b ∷ []) = b == 32
ends_in_space (b ∷ c ∷ cs) = ends_in_space (c ∷ cs)

-- a text that is not empty and ends in no space
pub record IsText (text : List ℕ) : Type 0 where
  pub filled : text ≢ []
  pub end : ends_in_space text ≡ false

-- an amount that is not negative
pub record IsSubmitted (cents : ℤ) : Type 0 where
  pub amount : IsAmount cents
  pub not_negative : pos 0 ≤ℤ cents

-- a header of one transaction, with this code and a day as its date
pub record IsHeader (expected : List ℕ) (h : Request) : Type 0 where
  pub sound : IsRequest h
  pub code : h.code ≡ expected
  pub count : h.count ≡ 1
  pub date : is_calendar_date h.date ≡ true

-- a billing as callers hand it, without a fault
pub record IsBilling (b : Billing) : Type 0 where
  pub header : IsHeader (code_bytes kind.Billing) b.header
  pub cardholder : IsText b.cardholder
  pub product : IsText b.product
  pub cost : IsSubmitted b.cost
  pub fee : IsSubmitted b.fee
  pub sound : billing_fault b ≡ None

-- a reversal as callers hand it, without a fault
pub record IsReversing (r : Reversing) : Type 0 where
  pub header : IsHeader (code_bytes kind.Reversal) r.header
  pub product : IsText r.product
  pub sound : reversal_fault r ≡ None

-- ---- the orders

-- the claim that a billing asks to be paid
abbrev pub claim_billed : Billing → Claim
claim_billed b = record {
  fill = fill_of b.header b.prescription b.fill;
  date = b.header.date;
  cardholder = b.cardholder;
  product = b.product;
  quantity = b.quantity;
  cost = unsigned_abs b.cost;
  fee = unsigned_abs b.fee;
}

-- the reversal that is asked for
abbrev pub reversal_asked : Reversing → Reversal
reversal_asked r = record {
  bin = r.header.bin;
  pcn = r.header.pcn;
  qualifier = r.header.qualifier;
  provider = r.header.provider;
  prescription = r.prescription;
  fill = r.fill;
  date = r.header.date;
}
