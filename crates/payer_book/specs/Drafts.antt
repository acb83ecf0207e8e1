-- The rulings of a request over the payments of a book, and what they change, place by place.
use Rattle.std.specs.Prelude.{◌≡◌, ℕ, ◌+◌, ◌<◌, ◌≤◌, Bool, true, false, cond, ◌&&◌, is_some, List, [], ◌∷◌, ◌++◌, length, filter, count_by, slice_get, Option, Some, None, MatchOption, Result, Ok, Err}
use Rattle.claim_profile.specs.declared.order_reading.OrderFault.{OrderFault}
use Rattle.claim_model.specs.Words.{Advice, Auth, Amounts, Claim, Reversal, Order, Bills, Reverses, Code, DuplicateClaim, ReversalNotProcessed, Ruling, Paid, Duplicate, Reversed, Rejected, Plan}
use Rattle.claim_model.specs.Judgement.{same_claim, only, Judged, Unpriced, ToPrice, ToReverse, Verdict, Pays, Rejects, planned, verdict_in, priced, Consent, Allows, Denies, consent_in, taken_back}
use Rattle.plan_rules.specs.Pricing.{paid}
use Rattle.payer_book.specs.declared.book.payment.Standing.{Standing}
use Rattle.payer_book.specs.declared.ruling.changes.Change.{Change}
use Rattle.claim_model.specs.Bytes.{order_in}
use Rattle.claim_model.specs.Rows.{BookSettings, Book}
use Rattle.claim_model.specs.Book.{serial_fits, last_serial}
use Rattle.std.specs.List.{list_all}
use Rattle.payer_book.specs.declared.ruling.drafting.Draft.{Draft}
use Rattle.payer_book.specs.declared.ruling.judging.Verdict.{Verdict as Judgement}
use Rattle.payer_book.specs.declared.ruling.judging.Verdict.TheVariants.{Unpriced as IsUnpriced, ToPrice as IsToPrice, ToReverse as IsToReverse}
use Rattle.payer_book.specs.declared.ruling.pricing.Prices.{Prices}
use Rattle.payer_book.specs.declared.ruling.pricing.Prices.TheVariants.{Plan as OfPlan, Kept as OfAnswer}
use Rattle.payer_book.specs.Ledger.{Ledger, standing_in, standing_of, is_for_payment}
use Rattle.payer_book.specs.Changes.{change_by, changes_by, pays, standing_after}

-- the judgement of a claim, where its fill has this standing payment
abbrev pub claim_on : Claim → Option Standing → Judged
claim_on c None = ToPrice c
claim_on c (Some s) = cond (same_claim s.claim c) (Unpriced (Duplicate s.auth c.fill.prescription s.amounts)) (Unpriced (Rejected (DuplicateClaim ∷ [])))

-- the ruling of a claim whose fill has this standing payment: that payment once more where the claim is the same
abbrev pub billed_again : Standing → Claim → Ruling
billed_again s c = cond (same_claim s.claim c) (Duplicate s.auth c.fill.prescription s.amounts) (Rejected (DuplicateClaim ∷ []))

-- the judgement of a reversal, which is for this payment alone
abbrev pub reversal_on : Reversal → Option Standing → Judged
reversal_on v None = Unpriced (Rejected (ReversalNotProcessed ∷ []))
reversal_on v (Some s) = ToReverse s.auth v

-- the judgement of a reversal that is for the payment of this authorization alone
abbrev pub reversal_by : Reversal → Option Auth → Judged
reversal_by v None = Unpriced (Rejected (ReversalNotProcessed ∷ []))
reversal_by v (Some auth) = ToReverse auth v

-- the judgement of an order over the standing payments
abbrev pub judged_on : List Standing → Result Order (List Code) → Judged
judged_on standing (Err codes) = Unpriced (Rejected codes)
judged_on standing (Ok (Bills c)) = claim_on c (standing_of c.fill standing)
judged_on standing (Ok (Reverses v)) = reversal_on v (only (filter (is_for_payment v) standing))

abbrev pub verdict : Judgement → Judged
verdict (IsUnpriced ruling) = Unpriced ruling
verdict (IsToPrice c) = ToPrice c.now
verdict (IsToReverse auth v) = ToReverse auth v.now

-- whether a payer asks about claims, and then about reversals too
pub record Asking : Type 0 where
  pub asks : Bool
  pub reversals : Bool

abbrev pub asking_of : BookSettings → Asking
asking_of s = record { asks = s.asks; reversals = s.reversals }

-- where verdicts and consents come from: a plan, or, of a payer that asks so, the rulings of an answer: one that is kept, or an advice
pub data Pricing : Type 0 where
  ByPlan : Plan → Pricing
  AsKept : Asking → List Ruling → Pricing

abbrev pub pricing : Prices → Pricing
pricing (OfPlan plan) = ByPlan plan.now
pricing (OfAnswer asks reversals rulings) = AsKept (record { asks = asks; reversals = reversals }) rulings.now

-- what a ruling paid
abbrev pub amounts_in : Option Ruling → Option Amounts
amounts_in None = None
amounts_in (Some (Paid auth prescription amounts)) = Some amounts
amounts_in (Some (Duplicate auth prescription amounts)) = None
amounts_in (Some (Reversed auth prescription)) = None
amounts_in (Some (Rejected codes)) = None

-- the verdict that an answer has on the claim of a prescription: the amounts that it pays, and else a rejection with 70; of a payer that asks,
-- what it says of that prescription
abbrev pub kept_verdict : Bool → ℕ → Option Ruling → Option Verdict
kept_verdict asks claimed said = cond asks (verdict_in claimed said) (Some (planned (amounts_in said)))

-- the verdict on the claim at a place
abbrev pub price_at : Pricing → ℕ → Claim → Option Verdict
price_at (ByPlan plan) place c = Some (planned (paid plan c))
price_at (AsKept a rulings) place c = kept_verdict a.asks c.fill.prescription (slice_get rulings place)

-- the consent that an answer has to the reversal of a prescription: it is given; of a payer that asks about reversals, what it says of that
-- prescription
abbrev pub kept_consent : Asking → ℕ → Option Ruling → Option Consent
kept_consent a asked said = cond (a.asks && a.reversals) (consent_in asked said) (Some Allows)

-- the consent to the reversal at a place
abbrev pub consent_at : Pricing → ℕ → Reversal → Option Consent
consent_at (ByPlan plan) place v = Some Allows
consent_at (AsKept a rulings) place v = kept_consent a v.prescription (slice_get rulings place)

-- the verdict as the code has it
abbrev pub price_seen : Result Amounts (List Code) → Verdict
price_seen (Ok amounts) = Pays amounts
price_seen (Err codes) = Rejects codes

-- the consent as the code has it
abbrev pub consent_seen : Result Unit (List Code) → Consent
consent_seen (Ok nothing) = Allows
consent_seen (Err codes) = Denies codes

-- the pricing is that of a book of these settings
abbrev pub Suits : Pricing → BookSettings → Type 0
Suits (ByPlan plan) s = s.asks ≡ false
Suits (AsKept own said) s = own ≡ asking_of s

-- where a book has its verdicts and consents from, with an advice
abbrev pub pricing_of : Book → Advice → Pricing
pricing_of b advice = cond b.settings.asks (AsKept (asking_of b.settings) advice.rulings) (ByPlan b.plan)

-- the authorization of the next payment after some changes
abbrev pub auth_after : Ledger → List Change → Auth
auth_after l changes = record { payer = l.payer; serial = l.first + length l.payments + count_by pays changes }

-- it, where its serial is one that there is
abbrev pub IsAuthAfter : Ledger → List Change → Option Auth → Type 0
IsAuthAfter l changes result =
    MatchOption result (last_serial < (auth_after l changes).serial) (λ a. (a ≡ auth_after l changes) × (a.serial ≤ last_serial))

-- this ruling, where its serial is one that there is
abbrev pub IsRulingThatFits : Ruling → Option Ruling → Type 0
IsRulingThatFits ruling result = MatchOption result (serial_fits ruling ≡ false) (λ r. (r ≡ ruling) × (serial_fits r ≡ true))

abbrev pub ruling_by : Auth → Pricing → ℕ → Judged → Ruling
ruling_by auth prices place (Unpriced ruling) = ruling
ruling_by auth prices place (ToPrice c) = priced auth c (price_at prices place c)
ruling_by auth prices place (ToReverse paid_under v) = taken_back paid_under v (consent_at prices place v)

-- the ruling of the next place, after the changes of the places before
unfoldable pub ruling_on : Ledger → Pricing → List Change → Result Order (List Code) → Ruling
ruling_on l prices changes order = ruling_by (auth_after l changes) prices (length changes) (judged_on (standing_after (standing_in l.payments) changes) order)

abbrev pub advised_by : Pricing → ℕ → Judged → Bool
advised_by prices place (Unpriced ruling) = true
advised_by prices place (ToPrice c) = is_some (price_at prices place c)
advised_by prices place (ToReverse paid_under v) = is_some (consent_at prices place v)

-- there is a verdict or a consent at the next place, if one is wanted
unfoldable pub advised_on : Ledger → Pricing → List Change → Result Order (List Code) → Bool
advised_on l prices changes order = advised_by prices (length changes) (judged_on (standing_after (standing_in l.payments) changes) order)

-- and at each
abbrev pub all_advised_on : Ledger → Pricing → List Change → List (Result Order (List Code)) → Bool
all_advised_on l prices changes [] = true
all_advised_on l prices changes (order ∷ orders) =
    advised_on l prices changes order && all_advised_on l prices (changes ++ change_by order (ruling_on l prices changes order) ∷ []) orders

-- the ruling of the next place of a draft
abbrev pub next_ruling : Draft → Ledger → Prices → Result Order OrderFault → Ruling
next_ruling d l prices order = ruling_on l (pricing prices) d.changes.items (order_in order)

-- whether that place has the verdict that it wants
abbrev pub next_advised : Draft → Ledger → Prices → Result Order OrderFault → Bool
next_advised d l prices order = advised_on l (pricing prices) d.changes.items (order_in order)

-- it stands after the rulings of the places before, and what it changes after what they change
abbrev pub AddsRuling : Draft → Ledger → Prices → Result Order OrderFault → Draft → Type 0
AddsRuling old l prices order new = new.rulings.items ≡ old.rulings.items ++ next_ruling old l prices order ∷ []

abbrev pub AddsChange : Draft → Ledger → Prices → Result Order OrderFault → Draft → Type 0
AddsChange old l prices order new =
    new.changes.items ≡ old.changes.items ++ change_by (order_in order) (next_ruling old l prices order) ∷ []

-- the rulings of some orders, each after the changes of the places before
abbrev pub rulings_on : Ledger → Pricing → List Change → List (Result Order (List Code)) → List Ruling
rulings_on l prices changes [] = []
rulings_on l prices changes (order ∷ orders) =
    ruling_on l prices changes order ∷ rulings_on l prices (changes ++ change_by order (ruling_on l prices changes order) ∷ []) orders

-- a draft of all places: their rulings, each with a serial that there is, and what each changes
pub record IsDraft (l : Ledger) (prices : Pricing) (orders : List (Result Order (List Code))) (d : Draft) : Type 0 where
  pub ruled : d.rulings.items ≡ rulings_on l prices [] orders
  pub changed : d.changes.items ≡ changes_by orders d.rulings.items
  pub fit : list_all serial_fits d.rulings.items ≡ true
  -- there is a verdict on each claim that is to be priced, and a consent to each reversal that is asked about
  pub advised : d.advised ≡ all_advised_on l prices [] orders
