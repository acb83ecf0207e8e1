-- Answers to readable requests: what they are made of, and what they spell.
use Rattle.std.specs.Prelude.{◌≡◌, ℕ, ◌≤◌, List, [], ◌∷◌, length, replicate, codes}
use Rattle.std.specs.List.{AllByRecursion}
use Rattle.d0_header.specs.Request.{Request, IsRequest}
use Rattle.d0_header.specs.Response.{answer_to}
use Rattle.claim_profile.specs.declared.reject.Code.{Code}
use Rattle.claim_profile.specs.declared.reject.Code.TheVariants.{Bin}
use Rattle.claim_profile.specs.declared.ruling.Ruling.{Ruling}
use Rattle.claim_profile.specs.declared.ruling.Ruling.TheVariants as ruling
use Rattle.claim_profile.specs.declared.ruling.HeaderStatus.{HeaderStatus}
use Rattle.claim_profile.specs.declared.ruling.HeaderStatus.TheVariants as under
use Rattle.claim_profile.specs.declared.transaction.TransactionCode.{TransactionCode}
use Rattle.claim_profile.specs.Transaction.{code_bytes}
use Rattle.claim_profile.specs.Authorization.{IsAuthorization}
use Rattle.claim_profile.specs.Money.{IsMoney}
use Rattle.claim_profile.specs.Answer.{status_byte_of, answer_text, IsPrescription, StandsBeside}
use Rattle.claim_profile.specs.Ruling.{AnswerParts, IsCode}

-- one to five codes, each of which is read from its text
abbrev pub AreRejects : List Code → Type 0
AreRejects rejects = (1 ≤ length rejects) × (length rejects ≤ 5) × AllByRecursion IsCode rejects

-- a ruling of what the constructors take: an authorization and amounts in their ranges, a prescription number of at most twelve digits, one to five codes
abbrev pub IsConstructible : Ruling → Type 0
IsConstructible (ruling.Paid auth prescription amounts) = IsAuthorization auth.payer auth.serial × IsPrescription prescription × IsMoney amounts
IsConstructible (ruling.Duplicate auth prescription amounts) = IsAuthorization auth.payer auth.serial × IsPrescription prescription × IsMoney amounts
IsConstructible (ruling.Reversed auth prescription) = IsAuthorization auth.payer auth.serial × IsPrescription prescription
IsConstructible (ruling.Rejected rejects) = AreRejects rejects

-- what can be answered to a request: a ruling of that kind for each transaction that its header counts, and beside status `R` rejections alone
pub record Answers (h : Request) (status : HeaderStatus) (rulings : List Ruling) : Type 0 where
  pub header : IsRequest h
  pub count : length rulings ≡ h.count
  pub made : AllByRecursion IsConstructible rulings
  pub beside : AllByRecursion (StandsBeside status) rulings

-- what an answer is read as: the header that answers the request, and the rulings
abbrev pub answered : Request → HeaderStatus → List Ruling → AnswerParts
answered h status rulings = record { header = answer_to h (status_byte_of status); rulings = rulings }

-- the rulings of a request that is routed nowhere: code 01 for each transaction
abbrev pub unrouted : Request → List Ruling
unrouted h = replicate h.count (ruling.Rejected (Bin ∷ []))

-- its answer, under header status `R`
abbrev pub unrouted_text : Request → List ℕ
unrouted_text h = answer_text h under.Rejected (unrouted h)

-- the header of a request that is carried: sound, of version `D0`, and of a kind that is carried
pub record IsCarried (h : Request) : Type 0 where
  pub sound : IsRequest h
  pub version : h.version ≡ codes "D0"
  pub code : (kind : TransactionCode) × (h.code ≡ code_bytes kind)
