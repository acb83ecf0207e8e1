-- How one group is ruled, over all that was ruled before it.
use Rattle.std.specs.Prelude.{ℕ, ◌+◌, Bool, true, false, cond, ◌&&◌, ◌==◌, List, [], ◌∷◌, ◌++◌, Option, Some, None, is_some, Result, Ok, Err, find, filter, count_by, bytes_eq}
use Rattle.claim_model.specs.Words.{TxnId, Advice, Auth, Amounts, Fill, Claim, Reversal, Order, Bills, Reverses, Code, NotCovered, DuplicateClaim, ReversalNotProcessed, Ruling, Paid, Duplicate, Reversed, Rejected}
use Rattle.claim_model.specs.Context.{Context}
use Rattle.claim_model.specs.Numbered.{numbered}
use Rattle.claim_model.specs.Ruled.{Ruled, ruled}
use Rattle.claim_model.specs.Payments.{Payment, standing}
use Rattle.claim_model.specs.Rows.{BookSettings, Book}

abbrev pub same_fill : Fill → Fill → Bool
same_fill a b =
    bytes_eq a.bin b.bin && (bytes_eq a.pcn b.pcn && (bytes_eq a.qualifier b.qualifier && (bytes_eq a.provider b.provider
    && ((a.prescription == b.prescription) && (a.fill == b.fill)))))

-- two claims of one fill ask for the same: date, cardholder, product, quantity, cost and fee
abbrev pub same_claim : Claim → Claim → Bool
same_claim a b =
    bytes_eq a.date b.date && (bytes_eq a.cardholder b.cardholder && (bytes_eq a.product b.product
    && ((a.quantity == b.quantity) && ((a.cost == b.cost) && (a.fee == b.fee)))))

abbrev pub is_fill_number : ℕ → Option ℕ → Bool
is_fill_number fill None = true
is_fill_number fill (Some n) = n == fill

-- a reversal is for a claim of its BIN, PCN, qualifier, provider, prescription number and date, and of its fill number where it has one
abbrev pub is_for : Reversal → Claim → Bool
is_for v c =
    bytes_eq v.bin c.fill.bin && (bytes_eq v.pcn c.fill.pcn && (bytes_eq v.qualifier c.fill.qualifier && (bytes_eq v.provider c.fill.provider
    && ((v.prescription == c.fill.prescription) && (bytes_eq v.date c.date && is_fill_number c.fill.fill v.fill)))))

-- the standing payment of a fill
abbrev pub standing_for : Fill → List Ruled → Option Payment
standing_for fill before = find (λ p. same_fill fill p.claim.fill) (standing before)

-- the only one, where there is exactly one
abbrev pub only : {A : Type 0} → List A → Option A
only [] = None
only (a ∷ []) = Some a
only (a ∷ b ∷ more) = None

-- the payment that is to be reversed: the only standing one that the reversal is for
abbrev pub payment_to_reverse : Reversal → List Ruled → Option Payment
payment_to_reverse v before = only (filter (λ p. is_for v p.claim) (standing before))

-- what is known of a ruling before anybody is asked: it is settled, or a claim is to be priced, or a reversal may take back the payment of this
-- authorization
pub data Judged : Type 0 where
  Unpriced : Ruling → Judged
  ToPrice : Claim → Judged
  ToReverse : Auth → Reversal → Judged

-- a fill with a standing payment: the same claim again gets that payment again, another one is rejected with 83
abbrev pub judged_claim : Claim → Option Payment → Judged
judged_claim c None = ToPrice c
judged_claim c (Some p) = cond (same_claim p.claim c) (Unpriced (Duplicate p.auth c.fill.prescription p.amounts)) (Unpriced (Rejected (DuplicateClaim ∷ [])))

-- a reversal for no payment is rejected with 87
abbrev pub judged_reversal : Reversal → Option Payment → Judged
judged_reversal v None = Unpriced (Rejected (ReversalNotProcessed ∷ []))
judged_reversal v (Some p) = ToReverse p.auth v

-- the judgement of an order over what was ruled before it
unfoldable pub judged : List Ruled → Result Order (List Code) → Judged
judged before (Err codes) = Unpriced (Rejected codes)
judged before (Ok (Bills c)) = judged_claim c (standing_for c.fill before)
judged before (Ok (Reverses v)) = judged_reversal v (payment_to_reverse v before)

abbrev pub is_paid : Ruling → Bool
is_paid (Paid auth prescription amounts) = true
is_paid (Duplicate auth prescription amounts) = false
is_paid (Reversed auth prescription) = false
is_paid (Rejected codes) = false

-- the serial of the next payment: the settings' serial plus the number of Paid rulings before
abbrev pub next_serial : Book → List Ruled → ℕ
next_serial b before = b.settings.serial + count_by (λ (r : Ruled). is_paid r.ruling) before

abbrev pub next_auth : Book → List Ruled → Auth
next_auth b before = record { payer = b.payer; serial = next_serial b before }

-- what is paid for a claim that is to be priced, or the codes that reject it
pub data Verdict : Type 0 where
  Pays : Amounts → Verdict
  Rejects : List Code → Verdict

-- the verdict of a plan: a claim whose product is not on it is rejected with 70
abbrev pub planned : Option Amounts → Verdict
planned None = Rejects (NotCovered ∷ [])
planned (Some amounts) = Pays amounts

-- the verdict on the claim of a prescription in what an answer says at its place: the amounts that it pays, or says to have paid before, for this very
-- prescription, or its codes; none where it says anything else of the place, or nothing
abbrev pub verdict_in : ℕ → Option Ruling → Option Verdict
verdict_in claimed None = None
verdict_in claimed (Some (Paid auth prescription amounts)) = cond (prescription == claimed) (Some (Pays amounts)) None
verdict_in claimed (Some (Duplicate auth prescription amounts)) = cond (prescription == claimed) (Some (Pays amounts)) None
verdict_in claimed (Some (Reversed auth prescription)) = None
verdict_in claimed (Some (Rejected codes)) = Some (Rejects codes)

-- the verdict on the claim at a place: the plan's; of a payer that asks, what its advice says there
abbrev pub verdict_of : Context → Book → Advice → ℕ → Claim → Option Verdict
verdict_of ctx b advice place c = cond b.settings.asks (verdict_in c.fill.prescription (numbered advice.rulings place)) (Some (planned (ctx.price b.plan c)))

-- the ruling by a verdict; where there is none a rejection stands in its place, and the request is refused as a whole
abbrev pub priced : Auth → Claim → Option Verdict → Ruling
priced auth c None = Rejected (NotCovered ∷ [])
priced auth c (Some (Rejects codes)) = Rejected codes
priced auth c (Some (Pays amounts)) = Paid auth c.fill.prescription amounts

-- a reversal takes its payment back, or is rejected with codes
pub data Consent : Type 0 where
  Allows : Consent
  Denies : List Code → Consent

-- the consent to the reversal of a prescription in what an answer says at its place: that the payment of this very prescription is taken back, or
-- codes; none where it says anything else of the place, or nothing
abbrev pub consent_in : ℕ → Option Ruling → Option Consent
consent_in asked None = None
consent_in asked (Some (Paid auth prescription amounts)) = None
consent_in asked (Some (Duplicate auth prescription amounts)) = None
consent_in asked (Some (Reversed auth prescription)) = cond (prescription == asked) (Some Allows) None
consent_in asked (Some (Rejected codes)) = Some (Denies codes)

-- whether a payer asks about reversals of payments
abbrev pub asks_reversals : BookSettings → Bool
asks_reversals s = s.asks && s.reversals

-- the consent to the reversal at a place: it is given; by a payer that asks about reversals, as its advice says there
abbrev pub consent_of : Book → Advice → ℕ → Reversal → Option Consent
consent_of b advice place v = cond (asks_reversals b.settings) (consent_in v.prescription (numbered advice.rulings place)) (Some Allows)

-- the ruling by a consent to take back the payment of an authorization; where there is none a rejection stands in its place, and the request is
-- refused as a whole
abbrev pub taken_back : Auth → Reversal → Option Consent → Ruling
taken_back auth v None = Rejected (ReversalNotProcessed ∷ [])
taken_back auth v (Some Allows) = Reversed auth v.prescription
taken_back auth v (Some (Denies codes)) = Rejected codes

abbrev pub ruling_of : Context → Book → Advice → List Ruled → ℕ → Judged → Ruling
ruling_of ctx b advice before place (Unpriced ruling) = ruling
ruling_of ctx b advice before place (ToPrice c) = priced (next_auth b before) c (verdict_of ctx b advice place c)
ruling_of ctx b advice before place (ToReverse auth v) = taken_back auth v (consent_of b advice place v)

-- the ruling of an order at a place over what was ruled before it
unfoldable pub ruling : Context → Book → Advice → List Ruled → ℕ → Result Order (List Code) → Ruling
ruling ctx b advice before place order = ruling_of ctx b advice before place (judged before order)

-- the rulings of a request's groups: each over all rows before and the earlier places of its own request
abbrev pub rulings_from : Context → Book → Advice → List Ruled → TxnId → ℕ → List (Result Order (List Code)) → List Ruling
rulings_from ctx b advice before id place [] = []
rulings_from ctx b advice before id place (order ∷ orders) =
    let r = ruling ctx b advice before place order in r ∷ rulings_from ctx b advice (before ++ ruled id place order r ∷ []) id (place + 1) orders

-- nothing is asked for, or there is a verdict, or a consent
abbrev pub is_advised : Context → Book → Advice → ℕ → Judged → Bool
is_advised ctx b advice place (Unpriced ruling) = true
is_advised ctx b advice place (ToPrice c) = is_some (verdict_of ctx b advice place c)
is_advised ctx b advice place (ToReverse auth v) = is_some (consent_of b advice place v)

-- there is a verdict on each claim that is to be priced, and a consent to each reversal that is asked about
abbrev pub all_advised : Context → Book → Advice → List Ruled → TxnId → ℕ → List (Result Order (List Code)) → Bool
all_advised ctx b advice before id place [] = true
all_advised ctx b advice before id place (order ∷ orders) =
    is_advised ctx b advice place (judged before order)
    && all_advised ctx b advice (before ++ ruled id place order (ruling ctx b advice before place order) ∷ []) id (place + 1) orders
