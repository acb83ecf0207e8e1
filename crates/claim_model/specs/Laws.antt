-- What the crates below promise of the readings in a context. Every theorem of this crate is for every context that keeps these laws.
use Rattle.std.specs.Prelude.{◌≡◌, ℕ, ◌^◌, ◌<◌, ◌≤◌, List, length, Some, Result, Ok, Err, ⊤}
use Rattle.std.specs.List.{AllByRecursion}
use Rattle.claim_profile.specs.Authorization.{largest_serial}
use Rattle.claim_profile.specs.Money.{largest}
use Rattle.claim_profile.specs.Ruling.{IsCode}
use Rattle.claim_model.specs.Words.{Auth, Amounts, Claim, Reversal, Order, Bills, Reverses, Code, Ruling, Paid, Duplicate, Reversed, Rejected, RequestHeader, Status, AcceptedStatus, RejectedStatus, Answer, Envelope, Plan, RouteKey}
use Rattle.claim_model.specs.Context.{Context}
use Rattle.claim_model.specs.Numbered.{numbered}
use Rattle.claim_model.specs.Judgement.{Verdict, Pays, Rejects, verdict_in, Consent, Allows, Denies, consent_in}
use Rattle.claim_model.specs.Readable.{readable, longest, billing_code, reversal_code}

-- an envelope that can be written: neither number is zero, both fit their fields, and the payload is not too long
pub record IsEnvelope (e : Envelope) : Type 0 where
  pub pharmacy : 0 < e.id.pharmacy
  pub pharmacy_fits : e.id.pharmacy < 2 ^ 16
  pub number : 0 < e.id.number
  pub number_fits : e.id.number < 2 ^ 64
  pub payload : length e.payload ≤ longest

-- a prescription number has at most twelve digits
abbrev pub IsPrescription : ℕ → Type 0
IsPrescription n = n < 10 ^ 12

-- a claim is of its request's header, which has code B1; what it asks for has at most eight digits
pub record IsClaimOf (h : RequestHeader) (c : Claim) : Type 0 where
  pub code : h.code ≡ billing_code
  pub bin : c.fill.bin ≡ h.bin
  pub pcn : c.fill.pcn ≡ h.pcn
  pub qualifier : c.fill.qualifier ≡ h.qualifier
  pub provider : c.fill.provider ≡ h.provider
  pub prescription : IsPrescription c.fill.prescription
  pub fee : c.fee ≤ largest

-- a reversal is of its request's header, which has code B2
pub record IsReversalOf (h : RequestHeader) (v : Reversal) : Type 0 where
  pub code : h.code ≡ reversal_code
  pub bin : v.bin ≡ h.bin
  pub pcn : v.pcn ≡ h.pcn
  pub qualifier : v.qualifier ≡ h.qualifier
  pub provider : v.provider ≡ h.provider
  pub prescription : IsPrescription v.prescription

-- one to five codes, each of which is read from its text
pub record IsRejects (codes : List Code) : Type 0 where
  pub some : 0 < length codes
  pub few : length codes ≤ 5
  pub each : AllByRecursion IsCode codes

abbrev pub IsOrderOf : RequestHeader → Result Order (List Code) → Type 0
IsOrderOf h (Ok (Bills c)) = IsClaimOf h c
IsOrderOf h (Ok (Reverses v)) = IsReversalOf h v
IsOrderOf h (Err codes) = IsRejects codes

-- four digits of payer and twelve of serial, neither of them zero
pub record IsAuth (a : Auth) : Type 0 where
  pub payer : 0 < a.payer
  pub payer_fits : a.payer ≤ 9999
  pub serial : 0 < a.serial
  pub serial_fits : a.serial ≤ largest_serial

-- amounts of at most eight digits
pub record IsAmounts (m : Amounts) : Type 0 where
  pub cost : m.cost ≤ largest
  pub fee : m.fee ≤ largest
  pub copay : m.copay ≤ largest
  pub total : m.total ≤ largest

-- a verdict that can be written
abbrev pub IsVerdict : Verdict → Type 0
IsVerdict (Pays amounts) = IsAmounts amounts
IsVerdict (Rejects codes) = IsRejects codes

-- a consent that can be written
abbrev pub IsConsent : Consent → Type 0
IsConsent Allows = ⊤
IsConsent (Denies codes) = IsRejects codes

-- an advice whose verdicts can be written
abbrev pub AdvisesWell : List Ruling → Type 0
AdvisesWell advice = (place claimed : ℕ) (v : Verdict) → verdict_in claimed (numbered advice place) ≡ Some v → IsVerdict v

-- the same verdicts and consents, at each place
abbrev pub SaysSame : List Ruling → List Ruling → Type 0
SaysSame a b =
    (place n : ℕ) → (verdict_in n (numbered a place) ≡ verdict_in n (numbered b place)) × (consent_in n (numbered a place) ≡ consent_in n (numbered b place))

-- a ruling that can be written
abbrev pub IsRuling : Ruling → Type 0
IsRuling (Paid auth prescription amounts) = IsAuth auth × IsPrescription prescription × IsAmounts amounts
IsRuling (Duplicate auth prescription amounts) = IsAuth auth × IsPrescription prescription × IsAmounts amounts
IsRuling (Reversed auth prescription) = IsAuth auth × IsPrescription prescription
IsRuling (Rejected codes) = IsRejects codes

abbrev pub IsRejected : Ruling → Type 0
IsRejected (Paid auth prescription amounts) = ⊥
IsRejected (Duplicate auth prescription amounts) = ⊥
IsRejected (Reversed auth prescription) = ⊥
IsRejected (Rejected codes) = ⊤

-- header status R goes with rejections alone
abbrev pub GoesWith : Status → List Ruling → Type 0
GoesWith AcceptedStatus rulings = ⊤
GoesWith RejectedStatus rulings = AllByRecursion IsRejected rulings

-- bytes that are read as an answer to a request of this header, with these rulings
pub record Spells (ctx : Context) (h : RequestHeader) (rulings : List Ruling) (bytes : List ℕ) : Type 0 where
  pub short : length bytes ≤ longest
  pub answer : Answer
  pub reads : ctx.read_answer bytes ≡ Some answer
  pub rulings_are : answer.rulings ≡ rulings
  pub code : answer.header.code ≡ h.code
  pub count : answer.header.count ≡ h.count

-- an answer to a readable request, with one ruling for each group, is short and reads back, whatever it carries
abbrev pub AnswersReadBack : Context → Type 0
AnswersReadBack ctx = (text : List ℕ) (h : RequestHeader) (status : Status) (rulings : List Ruling) (carried : List ℕ) → readable ctx text ≡ Some h → length rulings ≡ h.count → AllByRecursion IsRuling rulings → GoesWith status rulings → Spells ctx h rulings (ctx.answer h status rulings carried)

-- what is kept of an advice is carried as the advice is, and is kept again of the answer that carries it
pub record CarriesWell (ctx : Context) (text : List ℕ) (h : RequestHeader) (rulings : List Ruling) (said : List ℕ) : Type 0 where
  pub same : ctx.answer h AcceptedStatus rulings (ctx.carried text rulings said) ≡ ctx.answer h AcceptedStatus rulings said
  pub again : ctx.carried text rulings (ctx.answer h AcceptedStatus rulings (ctx.carried text rulings said)) ≡ ctx.carried text rulings said

-- of an answer to a readable request, with one ruling for each group
abbrev pub CarriedBack : Context → Type 0
CarriedBack ctx = (text : List ℕ) (h : RequestHeader) (rulings : List Ruling) (said : List ℕ) → readable ctx text ≡ Some h → length rulings ≡ h.count → AllByRecursion IsRuling rulings → CarriesWell ctx text h rulings said

pub record Laws (ctx : Context) : Type 0 where
  -- a written envelope reads back
  pub envelopes : (e : Envelope) → IsEnvelope e → ctx.read_envelope (ctx.envelope e) ≡ Ok e
  -- the header counts the groups
  pub groups : (text : List ℕ) (h : RequestHeader) → readable ctx text ≡ Some h → length (ctx.orders text) ≡ h.count
  -- every group's order is of the header, or the group is rejected with one to five codes
  pub orders : (text : List ℕ) (h : RequestHeader) → readable ctx text ≡ Some h → AllByRecursion (IsOrderOf h) (ctx.orders text)
  -- a price for such a claim gives amounts that fit
  pub prices : (plan : Plan) (h : RequestHeader) (c : Claim) (amounts : Amounts) → IsClaimOf h c → ctx.price plan c ≡ Some amounts → IsAmounts amounts
  pub answers : AnswersReadBack ctx
  -- and what it carries is kept of it again
  pub carried_back : CarriedBack ctx
  -- what an answer that is read says of a claim can be written again
  pub sayings : (text : List ℕ) (answer : Answer) → ctx.read_answer text ≡ Some answer → AdvisesWell answer.rulings
  -- and what an advice says
  pub advices : (text : List ℕ) (advice : Answer) → ctx.read_advice text ≡ Some advice → AdvisesWell advice.rulings
  -- a book's answer is read as an advice too, which says the same of each claim
  pub advised : (text : List ℕ) (answer : Answer) → ctx.read_answer text ≡ Some answer → (advice : Answer) × (ctx.read_advice text ≡ Some advice) × SaysSame advice.rulings answer.rulings
  -- requests that are alike in what a route may look at have the same payer, as far as they have one, whatever their numbers are
  pub routes : (m n : ℕ) (key : RouteKey) (p q : ℕ) → ctx.route m key ≡ Some p → ctx.route n key ≡ Some q → p ≡ q
