-- Answers: the segments that rulings spell.
use Rattle.std.specs.Prelude.{ℕ, pos, ◌<◌, ◌^◌, List, [], ◌∷◌, ◌++◌, length, map, codes}
use Rattle.std.specs.List.{AllByRecursion}
use Rattle.overpunch.specs.Number.{number_text}
use Rattle.overpunch.specs.Amount.{amount_text}
use Rattle.d0_header.specs.Request.{Request}
use Rattle.d0_header.specs.Response.{Response, response_text, answer_to}
use Rattle.d0_segments.specs.Parts.{FieldParts, SegmentParts, TransmissionParts}
use Rattle.d0_segments.specs.Texts.{body_text}
use Rattle.claim_profile.specs.declared.reject.Code.{Code}
use Rattle.claim_profile.specs.declared.ruling.Ruling.{Ruling}
use Rattle.claim_profile.specs.declared.ruling.Ruling.TheVariants as ruling
use Rattle.claim_profile.specs.declared.ruling.HeaderStatus.{HeaderStatus}
use Rattle.claim_profile.specs.declared.ruling.HeaderStatus.TheVariants as header
use Rattle.claim_profile.specs.Authorization.{Authorization, authorization_text}
use Rattle.claim_profile.specs.Money.{Money}
use Rattle.claim_profile.specs.Reject.{code_text}

-- the header response status: `A` or `R`
abbrev pub status_byte_of : HeaderStatus → ℕ
status_byte_of header.Accepted = 65
status_byte_of header.Rejected = 82

-- a field of this name and value
abbrev pub field : List ℕ → List ℕ → FieldParts
field id value = record { id = id; value = value }

-- a segment of this identification and these fields
abbrev pub segment : List ℕ → List FieldParts → SegmentParts
segment id fields = record { id = id; fields = fields }

-- the response status segment of a payment, or of its reversal
unfoldable pub status_segment : List ℕ → Authorization → SegmentParts
status_segment status auth = segment (codes "21") (field (codes "AN") status ∷ field (codes "F3") (authorization_text auth) ∷ [])

-- the response claim segment
unfoldable pub claim_segment : ℕ → SegmentParts
claim_segment prescription = segment (codes "22") (field (codes "EM") (codes "1") ∷ field (codes "D2") (number_text prescription) ∷ [])

-- the response pricing segment: patient pay amount, cost, fee and total
unfoldable pub pricing_segment : Money → SegmentParts
pricing_segment m = segment (codes "23") (
    field (codes "F5") (amount_text (pos m.copay))
    ∷ field (codes "F6") (amount_text (pos m.cost))
    ∷ field (codes "F7") (amount_text (pos m.fee))
    ∷ field (codes "F9") (amount_text (pos m.total))
    ∷ [])

-- the reject code field of a code
abbrev pub code_field : Code → FieldParts
code_field code = field (codes "FB") (code_text code)

-- the response status segment of a rejection: how many codes there are, and the codes
unfoldable pub reject_segment : List Code → SegmentParts
reject_segment rejects = segment (codes "21") (field (codes "AN") (codes "R") ∷ field (codes "FA") (number_text (length rejects)) ∷ map code_field rejects)

-- the segments of a ruling
abbrev pub ruling_segments : Ruling → List SegmentParts
ruling_segments (ruling.Paid auth prescription amounts) = status_segment (codes "P") auth ∷ claim_segment prescription ∷ pricing_segment amounts ∷ []
ruling_segments (ruling.Duplicate auth prescription amounts) = status_segment (codes "D") auth ∷ claim_segment prescription ∷ pricing_segment amounts ∷ []
ruling_segments (ruling.Reversed auth prescription) = status_segment (codes "A") auth ∷ claim_segment prescription ∷ []
ruling_segments (ruling.Rejected rejects) = reject_segment rejects ∷ []

-- the groups of the rulings, one for each
abbrev pub ruling_groups : List Ruling → List (List SegmentParts)
ruling_groups rulings = map ruling_segments rulings

-- the response that answers a request: its header, no shared segments, and a group for each ruling
abbrev pub answer_parts : Request → HeaderStatus → List Ruling → TransmissionParts Response
answer_parts request status rulings = record { header = answer_to request (status_byte_of status); shared = []; groups = ruling_groups rulings }

-- the text of that response
unfoldable pub answer_text : Request → HeaderStatus → List Ruling → List ℕ
answer_text request status rulings = response_text (answer_to request (status_byte_of status)) ++ body_text [] (ruling_groups rulings)

-- a prescription number of at most twelve digits
abbrev pub IsPrescription : ℕ → Type 0
IsPrescription prescription = prescription < 10 ^ 12

-- a ruling that can be written: its prescription number has at most twelve digits
abbrev pub IsWritable : Ruling → Type 0
IsWritable (ruling.Paid auth prescription amounts) = IsPrescription prescription
IsWritable (ruling.Duplicate auth prescription amounts) = IsPrescription prescription
IsWritable (ruling.Reversed auth prescription) = IsPrescription prescription
IsWritable (ruling.Rejected rejects) = Unit {0}

-- a ruling that may stand beside a header status: beside `R` a rejection alone
abbrev pub StandsBeside : HeaderStatus → Ruling → Type 0
StandsBeside header.Accepted ruling = Unit {0}
StandsBeside header.Rejected (ruling.Paid auth prescription amounts) = ⊥
StandsBeside header.Rejected (ruling.Duplicate auth prescription amounts) = ⊥
StandsBeside header.Rejected (ruling.Reversed auth prescription) = ⊥
StandsBeside header.Rejected (ruling.Rejected rejects) = Unit {0}

-- rulings that can be written under a header status
abbrev pub AreWritable : HeaderStatus → List Ruling → Type 0
AreWritable status rulings = AllByRecursion (λ r. IsWritable r × StandsBeside status r) rulings
