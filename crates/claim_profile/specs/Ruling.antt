-- What an answer says, told by the lists of all values of its fields.
use Rattle.std.specs.Prelude.{◌≡◌, ℕ, nat_le, List, [], ◌∷◌, length, Bool, true, false, ◌&&◌, ◌==◌, Option, Some, None, option_map, option_and_then, Result, Ok, Err, codes, if◌then◌else◌}
use Rattle.std.specs.Str.{bytes_eq}
use Rattle.d0_header.specs.Response.{Response}
use Rattle.d0_segments.specs.Parts.{SegmentParts, TransmissionParts}
use Rattle.d0_segments.specs.Framing.{response_kind, transmission_of}
use Rattle.claim_profile.specs.declared.reject.Code.{Code}
use Rattle.claim_profile.specs.declared.reject.Code.TheVariants as code
use Rattle.claim_profile.specs.declared.ruling.Ruling.{Ruling}
use Rattle.claim_profile.specs.declared.ruling.Ruling.TheVariants as ruling
use Rattle.claim_profile.specs.declared.answer_status.Status.{Status}
use Rattle.claim_profile.specs.declared.answer_status.Status.TheVariants as status
use Rattle.claim_profile.specs.declared.answer_reading.Speaker.{Speaker}
use Rattle.claim_profile.specs.declared.answer_reading.Speaker.TheVariants as speaker
use Rattle.claim_profile.specs.declared.answer_reading.AnswerFault.{AnswerFault}
use Rattle.claim_profile.specs.declared.answer_reading.AnswerFault.TheVariants.{OutOfMemory, Framing, NoStatus, BadStatus, BadAmount, BadAuthorization, BadRejects, BadClaim}
use Rattle.claim_profile.specs.Authorization.{Authorization, authorization_of}
use Rattle.claim_profile.specs.Money.{Money}
use Rattle.claim_profile.specs.CodeTexts.{other_code}
use Rattle.claim_profile.specs.Reject.{code_text}
use Rattle.claim_profile.specs.Fields.{values_in, texts_in, required, optional}
use Rattle.claim_profile.specs.Order.{number_up_to, amount_in_cents, qualified}

infixl 10 ◌>>=◌
abbrev pub ◌>>=◌ : {A B : Type 0} → Result A AnswerFault → (A → Result B AnswerFault) → Result B AnswerFault
(Ok x) >>= f = f x
(Err e) >>= f = Err e

-- a field that is there, or this fault
abbrev pub or_fault : {A : Type 0} → AnswerFault → Option A → Result A AnswerFault
or_fault fault None = Err fault
or_fault fault (Some x) = Ok x

-- ---- the status

-- the status that a text spells
abbrev pub status_of : List ℕ → Option Status
status_of text =
    if bytes_eq text (codes "P") then Some status.Paid
    else if bytes_eq text (codes "D") then Some status.Duplicate
    else if bytes_eq text (codes "A") then Some status.Reversed
    else if bytes_eq text (codes "R") then Some status.Rejected
    else None

-- the status of what is said again: `S`, where a payer's own system is asked once more about a reversal
abbrev pub again_by : Speaker → List ℕ → Option Status
again_by speaker.Book text = None
again_by speaker.System text = if bytes_eq text (codes "S") then Some status.Reversed else None

abbrev pub or_status : Option Status → Option Status → Option Status
or_status (Some status) other = Some status
or_status None other = other

-- the status that a text of this speaker spells
abbrev pub status_by : Speaker → List ℕ → Option Status
status_by by text = or_status (status_of text) (again_by by text)

-- whether a status is that of a rejection
abbrev pub is_rejection : Status → Bool
is_rejection status.Paid = false
is_rejection status.Duplicate = false
is_rejection status.Reversed = false
is_rejection status.Rejected = true

-- whether a status may stand under a header status: under `A` any, under `R` a rejection
abbrev pub stands_under : ℕ → Status → Bool
stands_under header status = if header == 65 then true else (if header == 82 then is_rejection status else false)

-- whether a status may stand under a header: it has version `D0`, and a status that allows it
abbrev pub stands_beside : Response → Status → Bool
stands_beside h status = bytes_eq h.version (codes "D0") && stands_under h.status status

-- the status that the values spell, where it may stand under the header
abbrev pub checked_status : Response → Option Status → Result Status AnswerFault
checked_status h None = Err BadStatus
checked_status h (Some status) = if stands_beside h status then Ok status else Err BadStatus

-- the status of a transaction
abbrev pub status_in : Speaker → Response → List SegmentParts → Result Status AnswerFault
status_in by h group = do
  text ← or_fault NoStatus (required (λ value. Some value) (values_in (codes "21") (codes "AN") group))
  checked_status h (status_by by text)

-- ---- the parts of a ruling

-- what stands for an authorization number that is not looked at
abbrev pub unread : Authorization
unread = record { payer = 1; serial = 1 }

-- the authorization number: of a book; of a payer's own system it may be any or none
abbrev pub authorization_in : Speaker → List SegmentParts → Result Authorization AnswerFault
authorization_in speaker.Book group = or_fault BadAuthorization (required authorization_of (values_in (codes "21") (codes "F3") group))
authorization_in speaker.System group = Ok unread

abbrev pub claim_in : List SegmentParts → Result ℕ AnswerFault
claim_in group = or_fault BadClaim (qualified (codes "1") (texts_in (codes "22") (codes "EM") group) (required (number_up_to 12) (values_in (codes "22") (codes "D2") group)))

-- four amounts that are there
abbrev pub money_of : (cost fee copay total : Option ℕ) → Option Money
money_of cost fee copay total =
    option_and_then (λ c. option_and_then (λ f. option_and_then (λ p. option_map (λ t. record { cost = c; fee = f; copay = p; total = t }) total) copay) fee) cost

abbrev pub amount_at : List ℕ → List SegmentParts → Option ℕ
amount_at name group = required amount_in_cents (values_in (codes "23") name group)

-- the fee that is paid, which a payer's own system may leave out
abbrev pub fee_in : Speaker → List SegmentParts → Option ℕ
fee_in speaker.Book group = amount_at (codes "F7") group
fee_in speaker.System group = optional 0 amount_in_cents (values_in (codes "23") (codes "F7") group)

abbrev pub money_in : Speaker → List SegmentParts → Result Money AnswerFault
money_in by group = or_fault BadAmount (money_of (amount_at (codes "F6") group) (fee_in by group) (amount_at (codes "F5") group) (amount_at (codes "F9") group))

-- the one of the twelve codes that a text is
abbrev pub known_code : List ℕ → Option Code
known_code text =
    if bytes_eq text (codes "01") then Some code.Bin
    else if bytes_eq text (codes "07") then Some code.Cardholder
    else if bytes_eq text (codes "15") then Some code.DateOfService
    else if bytes_eq text (codes "16") then Some code.Prescription
    else if bytes_eq text (codes "17") then Some code.FillNumber
    else if bytes_eq text (codes "21") then Some code.Product
    else if bytes_eq text (codes "23") then Some code.IngredientCost
    else if bytes_eq text (codes "E7") then Some code.Quantity
    else if bytes_eq text (codes "DC") then Some code.DispensingFee
    else if bytes_eq text (codes "70") then Some code.NotCovered
    else if bytes_eq text (codes "83") then Some code.DuplicateClaim
    else if bytes_eq text (codes "87") then Some code.ReversalNotProcessed
    else None

-- this code, else the other one that a text is
abbrev pub or_other : Option Code → List ℕ → Option Code
or_other (Some c) text = Some c
or_other None text = option_map code.Other (other_code text)

-- the code that a text is: one of the twelve, or another one
abbrev pub code_of : List ℕ → Option Code
code_of text = or_other (known_code text) text

-- a code that its text is read as
abbrev pub IsCode : Code → Type 0
IsCode c = code_of (code_text c) ≡ Some c

-- the codes that texts are, where each is one
abbrev pub codes_of : List (List ℕ) → Option (List Code)
codes_of [] = Some []
codes_of (text ∷ texts) = option_and_then (λ c. option_map (λ cs. c ∷ cs) (codes_of texts)) (code_of text)

-- one to five codes, as many as the count says
abbrev pub counted_codes : Option ℕ → Option (List Code) → Option (List Code)
counted_codes None rejects = None
counted_codes (Some count) None = None
counted_codes (Some count) (Some rejects) = if nat_le 1 (length rejects) && nat_le (length rejects) 5 && count == length rejects then Some rejects else None

abbrev pub rejects_in : List SegmentParts → Result (List Code) AnswerFault
rejects_in group = or_fault BadRejects (counted_codes (required (number_up_to 2) (values_in (codes "21") (codes "FA") group)) (codes_of (values_in (codes "21") (codes "FB") group)))

-- ---- the ruling

-- authorization, prescription number and amounts, in this order
abbrev pub payment_in : Speaker → (Authorization → ℕ → Money → Ruling) → List SegmentParts → Result Ruling AnswerFault
payment_in by paid group = do
  auth ← authorization_in by group
  prescription ← claim_in group
  amounts ← money_in by group
  Ok (paid auth prescription amounts)

abbrev pub reversal_in : Speaker → List SegmentParts → Result Ruling AnswerFault
reversal_in by group = do
  auth ← authorization_in by group
  prescription ← claim_in group
  Ok (ruling.Reversed auth prescription)

abbrev pub rejection_in : List SegmentParts → Result Ruling AnswerFault
rejection_in group = do
  rejects ← rejects_in group
  Ok (ruling.Rejected rejects)

-- the ruling of a status
abbrev pub ruling_under : Speaker → List SegmentParts → Status → Result Ruling AnswerFault
ruling_under by group status.Paid = payment_in by ruling.Paid group
ruling_under by group status.Duplicate = payment_in by ruling.Duplicate group
ruling_under by group status.Reversed = reversal_in by group
ruling_under by group status.Rejected = rejection_in group

-- the ruling that the segments of one transaction spell under a header
unfoldable pub ruling_in : Speaker → Response → List SegmentParts → Result Ruling AnswerFault
ruling_in by h group = do
  status ← status_in by h group
  ruling_under by group status

-- the rulings of groups, or the fault of the first that has one
unfoldable pub rulings_in : Speaker → Response → List (List SegmentParts) → Result (List Ruling) AnswerFault
rulings_in by h [] = Ok []
rulings_in by h (group ∷ groups) = do
  first ← ruling_in by h group
  others ← rulings_in by h groups
  Ok (first ∷ others)

-- what an answer says: the header of the response, and a ruling for each transaction
pub record AnswerParts : Type 0 where
  pub header : Response
  pub rulings : List Ruling

abbrev pub answer_with : Speaker → Option (TransmissionParts Response) → Result AnswerParts AnswerFault
answer_with by None = Err Framing
answer_with by (Some t) = do
  rulings ← rulings_in by t.header t.groups
  Ok (record { header = t.header; rulings = rulings })

-- the answer that bytes of this speaker spell, or the first fault
unfoldable pub said_by : Speaker → List ℕ → Result AnswerParts AnswerFault
said_by by bytes = answer_with by (transmission_of response_kind bytes)

-- the answer of a book
abbrev pub answer_of : List ℕ → Result AnswerParts AnswerFault
answer_of bytes = said_by speaker.Book bytes

-- the answer of a payer's own system, each authorization number of which stands as unread
abbrev pub advice_of : List ℕ → Result AnswerParts AnswerFault
advice_of bytes = said_by speaker.System bytes

-- what an error says of what should have been read; want of memory says nothing
abbrev pub FailsAs : {A : Type 0} → AnswerFault → Result A AnswerFault → Type 0
FailsAs OutOfMemory reading = Unit {0}
FailsAs fault reading = reading ≡ Err fault
