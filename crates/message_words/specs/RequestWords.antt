-- What is said of a request.
use Rattle.std.specs.Prelude.{ℕ, ◌-◌, Bool, true, false, nat_lt, ◌==◌, List, [], ◌∷◌, ◌++◌, length, codes, Option, None, Some, Result, Ok, Err, if◌then◌else◌}
use Rattle.d0_header.specs.Request.{Request}
use Rattle.d0_segments.specs.declared.fault.FramingFault.{FramingFault}
use Rattle.d0_segments.specs.Framing.{framing_fault, request_kind, transmission_of}
use Rattle.d0_segments.specs.Parts.{TransmissionParts}
use Rattle.claim_profile.specs.declared.order.Claim.{Claim}
use Rattle.claim_profile.specs.declared.order.Reversal.{Reversal}
use Rattle.claim_profile.specs.declared.order.Order.{Order}
use Rattle.claim_profile.specs.declared.order.Order.TheVariants as order
use Rattle.claim_profile.specs.declared.order_reading.OrderFault.{OrderFault}
use Rattle.claim_profile.specs.declared.reject.Code.{Code}
use Rattle.claim_profile.specs.Order.{placed_order}
use Rattle.claim_profile.specs.Reject.{code_text}
use Rattle.claim_profile.specs.Tally.{Tally, Absent, Single, Many}
use Rattle.claim_profile.specs.Transaction.{transaction_code}
use Rattle.message_parts.specs.declared.findings.Uncarried.{Uncarried}
use Rattle.message_parts.specs.declared.findings.Uncarried.TheVariants.{TooLong, OtherVersion, OtherCode}
use Rattle.message_parts.specs.declared.names.FieldName.{FieldName}
use Rattle.message_parts.specs.declared.names.FieldName.TheVariants as field
use Rattle.message_words.specs.declared.sentences.TheConstants.{BILLING, NOT_CARRIED, REJECTED_NOTHING, REJECTED_ONE, REJECTED_SEVERAL, REVERSAL, REVERSAL_OF_ONE}
use Rattle.message_parts.specs.Causes.{CauseSeen}
use Rattle.claim_profile.specs.CodeNames.{code_name}
use Rattle.message_words.specs.Facts.{Fact, Number, Dollars, Units, Words, Printed, Either, of_row, says_of, Sentence}
use Rattle.message_words.specs.FaultWords.{framing_said}
use Rattle.message_parts.specs.FieldTitles.{titles_of}
use Rattle.message_parts.specs.Findings.{FindingSeen, NotCarried, Asks, Rejected, request_findings}
use Rattle.message_words.specs.Sayings.{Said}
use Rattle.message_words.specs.Wanted.{wanted_in}

-- ---- a request that is not carried

abbrev pub why_words : Uncarried → List ℕ
why_words TooLong = codes "it has more than 32,768 bytes"
why_words OtherVersion = codes "its version (102-A2) is not D0"
why_words OtherCode = codes "its transaction code (103-A3) is neither B1 nor B2"

abbrev pub uncarried_said : Uncarried → Said
uncarried_said why = says_of (of_row NOT_CARRIED) (Words (why_words why) ∷ [])

-- ---- orders

abbrev pub billing : ℕ → Claim → Said
billing transaction claim =
    says_of (of_row BILLING) (Number transaction ∷ Number claim.fill.fill ∷ Number claim.fill.prescription ∷ Printed claim.cardholder
    ∷ Units claim.quantity ∷ Printed claim.product ∷ Dollars claim.cost ∷ Dollars claim.fee ∷ [])

abbrev pub reversal_of : ℕ → (prescription : ℕ) → Option ℕ → Said
reversal_of transaction prescription (Some fill) = says_of (of_row REVERSAL) (Number transaction ∷ Number prescription ∷ Number fill ∷ [])
reversal_of transaction prescription None = says_of (of_row REVERSAL_OF_ONE) (Number transaction ∷ Number prescription ∷ [])

abbrev pub reversed_order : ℕ → Reversal → Said
reversed_order transaction r = reversal_of transaction r.prescription r.fill

abbrev pub asked : ℕ → Order → Said
asked transaction (order.Claim claim) = billing transaction claim
asked transaction (order.Reversal r) = reversed_order transaction r

-- nothing is said of what reads as none
abbrev pub order_said : ℕ → Result Order OrderFault → List Said
order_said transaction (Ok order) = asked transaction order ∷ []
order_said transaction (Err fault) = []

-- of the transaction of a number, where there is one
abbrev pub asked_said : TransmissionParts Request → ℕ → List Said
asked_said t transaction =
    if nat_lt (transaction - 1) (length t.groups) then order_said transaction (placed_order t (transaction - 1)) else []

-- ---- causes for which a transaction is rejected

-- what stands in the field: that of a date is the header's
abbrev pub found_in : Request → FieldName → Tally → Tally
found_in h field.DateOfService found = Single h.date
found_in h _ found = found

-- that no answer tells the cause, where none does
abbrev pub beyond : Bool → Fact
beyond true = Either [] []
beyond false = Either (codes ",\"told\":\"beyond the first five\"") (codes "; not among the five that an answer tells")

-- a cause of this code and value in this sentence
abbrev pub rejected : Sentence → ℕ → Code → FieldName → (value wanted : List ℕ) → Bool → Said
rejected s transaction code name value wanted told =
    says_of s (Number transaction ∷ Printed (code_text code) ∷ Words (code_name code) ∷ Words (titles_of name).number
    ∷ Words (titles_of name).key ∷ Words (titles_of name).name ∷ Printed value ∷ Words wanted ∷ beyond told ∷ [])

-- a cause of this code, where this was found of the field and that is wanted
abbrev pub told_said : ℕ → Code → FieldName → Tally → List ℕ → Bool → Said
told_said transaction code name Absent wanted told = rejected (of_row REJECTED_NOTHING) transaction code name [] wanted told
told_said transaction code name (Single value) wanted told = rejected (of_row REJECTED_ONE) transaction code name value wanted told
told_said transaction code name Many wanted told = rejected (of_row REJECTED_SEVERAL) transaction code name [] wanted told

abbrev pub cause_said : Request → ℕ → CauseSeen → Bool → Said
cause_said h transaction cause told =
    told_said transaction cause.code cause.field (found_in h cause.field cause.found)
    (wanted_in cause.field (transaction_code h.code)) told

-- ---- all findings of a framed request

-- the transaction that a finding is about; 0 where it is about all
abbrev pub transaction_of : FindingSeen → ℕ
transaction_of (NotCarried why) = 0
transaction_of (Asks transaction) = transaction
transaction_of (Rejected transaction cause) = transaction

abbrev pub finding_said : TransmissionParts Request → FindingSeen → Bool → List Said
finding_said t (NotCarried why) told = uncarried_said why ∷ []
finding_said t (Asks transaction) told = asked_said t transaction
finding_said t (Rejected transaction cause) told = cause_said t.header transaction cause told ∷ []

-- how many causes of a transaction an answer still tells, where it told those of another one before
abbrev pub left_to_tell : (last transaction left : ℕ) → ℕ
left_to_tell last transaction left = if last == transaction then left else 5

-- all of them, where the last one was about a transaction of which this many causes may still be told
abbrev pub findings_said : TransmissionParts Request → (last left : ℕ) → List FindingSeen → List Said
findings_said t last left [] = []
findings_said t last left (f ∷ fs) =
    finding_said t f (nat_lt 0 (left_to_tell last (transaction_of f) left))
    ++ findings_said t (transaction_of f) (left_to_tell last (transaction_of f) left - 1) fs

-- what is said of bytes at a place by their fault of framing, or by the request that they are
abbrev pub framed_said : ℕ → List ℕ → Option FramingFault → Option (TransmissionParts Request) → List Said
framed_said place bytes (Some fault) t = framing_said place bytes fault ∷ []
framed_said place bytes None (Some t) = findings_said t 0 5 (request_findings bytes t)
framed_said place bytes None None = []

-- what is said of a request that stands at a place of the message
unfoldable pub request_said : ℕ → List ℕ → List Said
request_said place bytes = framed_said place bytes (framing_fault request_kind bytes) (transmission_of request_kind bytes)
