-- Serials that a request's rulings take, and claims that take none.
use Rattle.std.proofs.Common.{◌≡◌, ℕ, zero, suc, ◌+◌, ◌<◌, ◌≤◌, Bool, true, false, cond, List, [], ◌∷◌, ◌++◌, map, length, Option, Some, None, Result, Ok, Err, slice_get, refl, sym, ap, ◌∙◌, subst, append_assoc, arith, leb-true}
use Rattle.std.specs.Prelude.{find, filter, count_by, nat_le}
use Rattle.std.specs.List.{AllByRecursion, list_all}
use Rattle.std.proofs.lemmas.List.{append-nil}
use Rattle.std.proofs.lemmas.List.Sums.{sum_by-append}
use Rattle.std.proofs.lemmas.Bool.{and_parts, and_from, cond-true, cond-false, false_from_ne_true}
use Rattle.std.proofs.lemmas.Bool.Decides.{nat_tests}
use Rattle.claim_model.specs.Words.{Advice, TxnId, Amounts, Fill, Claim, Reversal, Order, Bills, Reverses, Code, NotCovered, Ruling, Paid, Duplicate, Reversed, Rejected}
use Rattle.claim_model.specs.Context.{Context}
use Rattle.claim_model.specs.Ruled.{Ruled, ruled, ruled_from}
use Rattle.claim_model.specs.Payments.{Payment, payment_by, payments, is_standing, standing}
use Rattle.claim_model.specs.Numbered.{numbered}
use Rattle.claim_model.specs.Rows.{Book}
use Rattle.claim_model.specs.Judgement.{same_fill, same_claim, standing_for, payment_to_reverse, Unpriced, Consent, Allows, Denies, consent_of, taken_back, judged_claim, judged_reversal, judged, is_paid, next_serial, next_auth, Verdict, Pays, Rejects, planned, verdict_in, verdict_of, priced, ruling_of, ruling, rulings_from}
use Rattle.claim_model.specs.Book.{last_serial, serial_fits}
use Rattle.claim_model.proofs.Lists.{all_weaker}
use Rattle.claim_model.proofs.Tests.{fill_same, fill_self}
use Rattle.claim_model.proofs.Marks.{mark, payments_more, still_others}

-- ---- one ruling

nat_le_from : (a b : ℕ) → a ≤ b → nat_le a b ≡ true
nat_le_from a b h = grind (arith, nat_tests)

priced_fits : (b : Book) (before : List Ruled) (c : Claim) (o : Option Verdict) → next_serial b before ≤ last_serial → serial_fits (priced (next_auth b before) c o) ≡ true
priced_fits b before c None room = refl
priced_fits b before c (Some (Rejects codes)) room = refl
priced_fits b before c (Some (Pays m)) room = nat_le_from (next_serial b before) last_serial room

claim_fits : (ctx : Context) (b : Book) (advice : Advice) (before : List Ruled) (place : ℕ) (c : Claim) (o : Option Payment) → next_serial b before ≤ last_serial → serial_fits (ruling_of ctx b advice before place (judged_claim c o)) ≡ true
claim_fits ctx b advice before place c None room = priced_fits b before c (verdict_of ctx b advice place c) room
claim_fits ctx b advice before place c (Some p) room = go (same_claim p.claim c)
  where
    go : (t : Bool) → serial_fits (ruling_of ctx b advice before place (cond t (Unpriced (Duplicate p.auth c.fill.prescription p.amounts)) (Unpriced (Rejected (Code.DuplicateClaim ∷ []))))) ≡ true
    go true = refl
    go false = refl

reversal_fits : (ctx : Context) (b : Book) (advice : Advice) (before : List Ruled) (place : ℕ) (v : Reversal) (o : Option Payment) → serial_fits (ruling_of ctx b advice before place (judged_reversal v o)) ≡ true
reversal_fits ctx b advice before place v None = refl
reversal_fits ctx b advice before place v (Some p) = by_consent (consent_of b advice place v)
  where
    by_consent : (o : Option Consent) → serial_fits (taken_back p.auth v o) ≡ true
    by_consent None = refl
    by_consent (Some Allows) = refl
    by_consent (Some (Denies codes)) = refl

-- a ruling fits while there is a serial for it
ruling_fits : (ctx : Context) (b : Book) (advice : Advice) (before : List Ruled) (place : ℕ) (order : Result Order (List Code)) → next_serial b before ≤ last_serial → serial_fits (ruling ctx b advice before place order) ≡ true
unfolding ruling judged
ruling_fits ctx b advice before place (Err codes) room = refl
ruling_fits ctx b advice before place (Ok (Bills c)) room = claim_fits ctx b advice before place c (standing_for c.fill before) room
ruling_fits ctx b advice before place (Ok (Reverses v)) room = reversal_fits ctx b advice before place v (payment_to_reverse v before)

one_paid : (x : Ruled) → count_by (λ (r : Ruled). is_paid r.ruling) (x ∷ []) ≤ 1
one_paid x = go (is_paid x.ruling)
  where
    go : (t : Bool) → 0 + cond t 1 0 ≤ 1
    go true = omega arith
    go false = omega arith

paid_more : (before : List Ruled) (x : Ruled) → count_by (λ (r : Ruled). is_paid r.ruling) (before ++ x ∷ []) ≡ count_by (λ (r : Ruled). is_paid r.ruling) before + count_by (λ (r : Ruled). is_paid r.ruling) (x ∷ [])
paid_more before x = sum_by-append (λ (r : Ruled). cond (is_paid r.ruling) 1 0) before (x ∷ [])

pub next_most : (b : Book) (before : List Ruled) (x : Ruled) → next_serial b (before ++ x ∷ []) ≤ next_serial b before + 1
next_most b before x = omega (arith, paid_more before x, one_paid x)

next_least : (b : Book) (before : List Ruled) (x : Ruled) → next_serial b before ≤ next_serial b (before ++ x ∷ [])
next_least b before x = omega (arith, paid_more before x)

-- the rulings of a request fit where there are serials for all its transactions
pub rulings_fit : (ctx : Context) (b : Book) (advice : Advice) (before : List Ruled) (id : TxnId) (place : ℕ) (orders : List (Result Order (List Code))) → next_serial b before + length orders ≤ last_serial + 1 → list_all serial_fits (rulings_from ctx b advice before id place orders) ≡ true
rulings_fit ctx b advice before id place [] room = refl
rulings_fit ctx b advice before id place (order ∷ orders) room =
    let x : Ruled = ruled id place order (ruling ctx b advice before place order) in
    let most = next_most b before x in
    and_from (serial_fits (ruling ctx b advice before place order)) (list_all serial_fits (rulings_from ctx b advice (before ++ x ∷ []) id (place + 1) orders)) (ruling_fits ctx b advice before place order (omega (arith, room)))
    (rulings_fit ctx b advice (before ++ x ∷ []) id (place + 1) orders (omega (arith, room, most)))

-- ---- where no serial is left

priced_unpaid : (b : Book) (before : List Ruled) (c : Claim) (o : Option Verdict) → last_serial < next_serial b before → serial_fits (priced (next_auth b before) c o) ≡ true → is_paid (priced (next_auth b before) c o) ≡ false
priced_unpaid b before c None used fits = refl
priced_unpaid b before c (Some (Rejects codes)) used fits = refl
priced_unpaid b before c (Some (Pays m)) used fits = let le : next_serial b before ≤ last_serial = leb-true _ _ fits in absurd (omega (arith, le, used))

claim_unpaid : (ctx : Context) (b : Book) (advice : Advice) (before : List Ruled) (place : ℕ) (c : Claim) (o : Option Payment) → last_serial < next_serial b before → serial_fits (ruling_of ctx b advice before place (judged_claim c o)) ≡ true → is_paid (ruling_of ctx b advice before place (judged_claim c o)) ≡ false
claim_unpaid ctx b advice before place c None used fits = priced_unpaid b before c (verdict_of ctx b advice place c) used fits
claim_unpaid ctx b advice before place c (Some p) used fits = go (same_claim p.claim c)
  where
    go : (t : Bool) → is_paid (ruling_of ctx b advice before place (cond t (Unpriced (Duplicate p.auth c.fill.prescription p.amounts)) (Unpriced (Rejected (Code.DuplicateClaim ∷ []))))) ≡ false
    go true = refl
    go false = refl

reversal_unpaid : (ctx : Context) (b : Book) (advice : Advice) (before : List Ruled) (place : ℕ) (v : Reversal) (o : Option Payment) → is_paid (ruling_of ctx b advice before place (judged_reversal v o)) ≡ false
reversal_unpaid ctx b advice before place v None = refl
reversal_unpaid ctx b advice before place v (Some p) = by_consent (consent_of b advice place v)
  where
    by_consent : (o : Option Consent) → is_paid (taken_back p.auth v o) ≡ false
    by_consent None = refl
    by_consent (Some Allows) = refl
    by_consent (Some (Denies codes)) = refl

-- a ruling that fits is no payment then
ruling_unpaid : (ctx : Context) (b : Book) (advice : Advice) (before : List Ruled) (place : ℕ) (order : Result Order (List Code)) → last_serial < next_serial b before → serial_fits (ruling ctx b advice before place order) ≡ true → is_paid (ruling ctx b advice before place order) ≡ false
unfolding ruling judged
ruling_unpaid ctx b advice before place (Err codes) used fits = refl
ruling_unpaid ctx b advice before place (Ok (Bills c)) used fits = claim_unpaid ctx b advice before place c (standing_for c.fill before) used fits
ruling_unpaid ctx b advice before place (Ok (Reverses v)) used fits = reversal_unpaid ctx b advice before place v (payment_to_reverse v before)

-- ---- a fill without a standing payment, as rulings that pay nothing follow

none_all : {A : Type 0} (test : A → Bool) (xs : List A) → find test xs ≡ None → AllByRecursion (λ x. test x ≡ true → ⊥) xs
none_all test [] e = tt
none_all test (x ∷ xs) e = go (test x) refl e (none_all test xs)
  where
    go : (b : Bool) → test x ≡ b → cond b (Some x) (find test xs) ≡ None → (find test xs ≡ None → AllByRecursion (λ y. test y ≡ true → ⊥) xs) → (test x ≡ true → ⊥) × AllByRecursion (λ y. test y ≡ true → ⊥) xs
    go true is h rest = absurd cc
    go false is h rest = ((λ t. Rattle.std.proofs.lemmas.Bool.false≢true (sym is ∙ t)), rest h)

all_none : {A : Type 0} (test : A → Bool) (xs : List A) → AllByRecursion (λ x. test x ≡ true → ⊥) xs → find test xs ≡ None
all_none test [] all = refl
all_none test (x ∷ xs) all = cond-false (test x) (Some x) (find test xs) (false_from_ne_true (test x) all.0) ∙ all_none test xs all.1

pays_nothing : (x : Ruled) (order : Result Order (List Code)) (given : Ruling) → is_paid given ≡ false → payment_by x [] order given ++ [] ≡ []
pays_nothing x (Ok (Bills c)) (Paid auth n m) e = absurd (Rattle.std.proofs.lemmas.Bool.true≢false e)
pays_nothing x (Ok (Bills c)) (Duplicate auth n m) e = refl
pays_nothing x (Ok (Bills c)) (Reversed auth n) e = refl
pays_nothing x (Ok (Bills c)) (Rejected codes) e = refl
pays_nothing x (Ok (Reverses v)) given e = refl
pays_nothing x (Err codes) given e = refl

standing_more : (before : List Ruled) (x : Ruled) → is_paid x.ruling ≡ false → standing (before ++ x ∷ []) ≡ filter is_standing (map (mark x) (payments before))
standing_more before x e =
    ap (filter is_standing) (payments_more before x ∙ (ap (λ (ps : List Payment). map (mark x) (payments before) ++ ps) (pays_nothing x x.order x.ruling e) ∙ append-nil (map (mark x) (payments before))))

-- a fill without a standing payment has none after a ruling that pays nothing
pub none_more : (c : Claim) (before : List Ruled) (x : Ruled) → is_paid x.ruling ≡ false → standing_for c.fill before ≡ None → standing_for c.fill (before ++ x ∷ []) ≡ None
none_more c before x e none =
    let p : Payment = record { id = x.id; place = x.place; claim = c; auth = record { payer = 0; serial = 0 }; amounts = record { cost = 0; fee = 0; copay = 0; total = 0 }; reversed_by = None } in
    let old : AllByRecursion (λ (q : Payment). q.claim.fill ≡ p.claim.fill → ⊥) (standing before) =
    all_weaker (λ (q : Payment). same_fill c.fill q.claim.fill ≡ true → ⊥) (λ (q : Payment). q.claim.fill ≡ p.claim.fill → ⊥)
    (λ q h f. h (subst (λ (y : Fill). same_fill c.fill y ≡ true) (sym f) (fill_self c.fill))) (standing before) (none_all (λ (q : Payment). same_fill c.fill q.claim.fill) (standing before) none) in
    let new : AllByRecursion (λ (q : Payment). q.claim.fill ≡ p.claim.fill → ⊥) (filter is_standing (map (mark x) (payments before))) = still_others x p (payments before) old in
    ap (find (λ (q : Payment). same_fill c.fill q.claim.fill)) (standing_more before x e)
    ∙ all_none (λ (q : Payment). same_fill c.fill q.claim.fill) (filter is_standing (map (mark x) (payments before)))
    (all_weaker (λ (q : Payment). q.claim.fill ≡ p.claim.fill → ⊥) (λ (q : Payment). same_fill c.fill q.claim.fill ≡ true → ⊥) (λ q h t. h (sym (fill_same c.fill q.claim.fill t))) (filter is_standing (map (mark x) (payments before))) new)

-- ---- a claim that wants a serial

-- a payer that does not ask has its plan's verdict
pub plan_verdict : (ctx : Context) (b : Book) (advice : Advice) (place : ℕ) (c : Claim) (o : Option Amounts) → b.settings.asks ≡ false → ctx.price b.plan c ≡ o → verdict_of ctx b advice place c ≡ Some (planned o)
plan_verdict ctx b advice place c o by_plan price = cond-false b.settings.asks (verdict_in c.fill.prescription (numbered advice.rulings place)) (Some (planned (ctx.price b.plan c))) by_plan ∙ ap (λ (x : Option Amounts). Some (planned x)) price

wants : (ctx : Context) (b : Book) (advice : Advice) (before : List Ruled) (place : ℕ) (c : Claim) (m : Amounts) → b.settings.asks ≡ false → standing_for c.fill before ≡ None → ctx.price b.plan c ≡ Some m → ruling ctx b advice before place (Ok (Bills c)) ≡ Paid (next_auth b before) c.fill.prescription m
unfolding ruling judged
wants ctx b advice before place c m by_plan none price = ap (λ o. ruling_of ctx b advice before place (judged_claim c o)) none ∙ ap (priced (next_auth b before) c) (plan_verdict ctx b advice place c (Some m) by_plan price)

-- where no serial is left, a request with such a claim does not fit
pub wanted_refused : (ctx : Context) (b : Book) (advice : Advice) (before : List Ruled) (id : TxnId) (place k : ℕ) (orders : List (Result Order (List Code))) (c : Claim) (m : Amounts) → b.settings.asks ≡ false → last_serial < next_serial b before → standing_for c.fill before ≡ None → ctx.price b.plan c ≡ Some m
    → slice_get orders k ≡ Some (Ok (Bills c)) → list_all serial_fits (rulings_from ctx b advice before id place orders) ≡ true → ⊥
wanted_refused ctx b advice before id place k [] c m by_plan used none price at fits = cc
wanted_refused ctx b advice before id place zero (order ∷ orders) c m by_plan used none price at fits =
    let same : order ≡ Ok (Bills c) = cc in
    let x : Ruled = ruled id place order (ruling ctx b advice before place order) in
    let p = and_parts (serial_fits (ruling ctx b advice before place order)) (list_all serial_fits (rulings_from ctx b advice (before ++ x ∷ []) id (place + 1) orders)) fits in
    let paid : ruling ctx b advice before place order ≡ Paid (next_auth b before) c.fill.prescription m = ap (ruling ctx b advice before place) same ∙ wants ctx b advice before place c m by_plan none price in
    let test : nat_le (next_serial b before) last_serial ≡ true = ap serial_fits (sym paid) ∙ p.0 in
    let le : next_serial b before ≤ last_serial = leb-true _ _ test in
    omega (arith, le, used)
wanted_refused ctx b advice before id place (suc k) (order ∷ orders) c m by_plan used none price at fits =
    let x : Ruled = ruled id place order (ruling ctx b advice before place order) in
    let p = and_parts (serial_fits (ruling ctx b advice before place order)) (list_all serial_fits (rulings_from ctx b advice (before ++ x ∷ []) id (place + 1) orders)) fits in
    let unpaid : is_paid (ruling ctx b advice before place order) ≡ false = ruling_unpaid ctx b advice before place order used p.0 in
    let least = next_least b before x in
    wanted_refused ctx b advice (before ++ x ∷ []) id (place + 1) k orders c m by_plan (omega (arith, used, least)) (none_more c before x unpaid none) price at p.1

-- what a request that fits then leaves of this: the fill has still no payment, and no serial came back
pub record StillUsed (b : Book) (c : Claim) (after : List Ruled) : Type 0 where
  pub used : last_serial < next_serial b after
  pub none : standing_for c.fill after ≡ None

pub still_used : (ctx : Context) (b : Book) (advice : Advice) (before : List Ruled) (id : TxnId) (place : ℕ) (orders : List (Result Order (List Code))) (c : Claim) → last_serial < next_serial b before → standing_for c.fill before ≡ None
    → list_all serial_fits (rulings_from ctx b advice before id place orders) ≡ true → StillUsed b c (before ++ ruled_from id place orders (rulings_from ctx b advice before id place orders))
still_used ctx b advice before id place [] c used none fits = subst (StillUsed b c) (sym (append-nil before)) (record { used = used; none = none })
still_used ctx b advice before id place (order ∷ orders) c used none fits =
    let x : Ruled = ruled id place order (ruling ctx b advice before place order) in
    let p = and_parts (serial_fits (ruling ctx b advice before place order)) (list_all serial_fits (rulings_from ctx b advice (before ++ x ∷ []) id (place + 1) orders)) fits in
    let unpaid : is_paid (ruling ctx b advice before place order) ≡ false = ruling_unpaid ctx b advice before place order used p.0 in
    let least = next_least b before x in
    subst (StillUsed b c) (append_assoc before (x ∷ []) (ruled_from id (place + 1) orders (rulings_from ctx b advice (before ++ x ∷ []) id (place + 1) orders)))
    (still_used ctx b advice (before ++ x ∷ []) id (place + 1) orders c (omega (arith, used, least)) (none_more c before x unpaid none) p.1)

-- ---- a plan that pays nothing

unpriced_claim : (ctx : Context) (b : Book) (advice : Advice) (before : List Ruled) (place : ℕ) (c : Claim) (o : Option Payment) → b.settings.asks ≡ false → ctx.price b.plan c ≡ None → is_paid (ruling_of ctx b advice before place (judged_claim c o)) ≡ false
unpriced_claim ctx b advice before place c None by_plan none = ap (λ o. is_paid (priced (next_auth b before) c o)) (plan_verdict ctx b advice place c None by_plan none)
unpriced_claim ctx b advice before place c (Some p) by_plan none = go (same_claim p.claim c)
  where
    go : (t : Bool) → is_paid (ruling_of ctx b advice before place (cond t (Unpriced (Duplicate p.auth c.fill.prescription p.amounts)) (Unpriced (Rejected (Code.DuplicateClaim ∷ []))))) ≡ false
    go true = refl
    go false = refl

unpriced : (ctx : Context) (b : Book) (advice : Advice) (before : List Ruled) (place : ℕ) (order : Result Order (List Code)) → b.settings.asks ≡ false → ((c : Claim) → order ≡ Ok (Bills c) → ctx.price b.plan c ≡ None) → is_paid (ruling ctx b advice before place order) ≡ false
unfolding ruling judged
unpriced ctx b advice before place (Err codes) by_plan none = refl
unpriced ctx b advice before place (Ok (Bills c)) by_plan none = unpriced_claim ctx b advice before place c (standing_for c.fill before) by_plan (none c refl)
unpriced ctx b advice before place (Ok (Reverses v)) by_plan none = reversal_unpaid ctx b advice before place v (payment_to_reverse v before)

unpaid_fits : (given : Ruling) → is_paid given ≡ false → serial_fits given ≡ true
unpaid_fits (Paid auth n m) e = absurd (Rattle.std.proofs.lemmas.Bool.true≢false e)
unpaid_fits (Duplicate auth n m) e = refl
unpaid_fits (Reversed auth n) e = refl
unpaid_fits (Rejected codes) e = refl

-- the claims of a list of orders are not priced
abbrev pub NonePriced : Context → Book → List (Result Order (List Code)) → Type 0
NonePriced ctx b orders = (k : ℕ) (c : Claim) → slice_get orders k ≡ Some (Ok (Bills c)) → ctx.price b.plan c ≡ None

pub unpriced_fit : (ctx : Context) (b : Book) (advice : Advice) (before : List Ruled) (id : TxnId) (place : ℕ) (orders : List (Result Order (List Code))) → b.settings.asks ≡ false → NonePriced ctx b orders → list_all serial_fits (rulings_from ctx b advice before id place orders) ≡ true
unpriced_fit ctx b advice before id place [] by_plan none = refl
unpriced_fit ctx b advice before id place (order ∷ orders) by_plan none =
    let x : Ruled = ruled id place order (ruling ctx b advice before place order) in
    and_from (serial_fits (ruling ctx b advice before place order)) (list_all serial_fits (rulings_from ctx b advice (before ++ x ∷ []) id (place + 1) orders))
    (unpaid_fits (ruling ctx b advice before place order) (unpriced ctx b advice before place order by_plan (λ c e. none 0 c (ap (λ (o : Result Order (List Code)). Some o) e))))
    (unpriced_fit ctx b advice (before ++ x ∷ []) id (place + 1) orders by_plan (λ k c e. none (suc k) c e))

rejects : (ctx : Context) (b : Book) (advice : Advice) (before : List Ruled) (place : ℕ) (c : Claim) → b.settings.asks ≡ false → standing_for c.fill before ≡ None → ctx.price b.plan c ≡ None → ruling ctx b advice before place (Ok (Bills c)) ≡ Rejected (NotCovered ∷ [])
unfolding ruling judged
rejects ctx b advice before place c by_plan none price = ap (λ o. ruling_of ctx b advice before place (judged_claim c o)) none ∙ ap (priced (next_auth b before) c) (plan_verdict ctx b advice place c None by_plan price)

-- and each of them that has no standing payment is rejected with 70
pub unpriced_rejected : (ctx : Context) (b : Book) (advice : Advice) (before : List Ruled) (id : TxnId) (place k : ℕ) (orders : List (Result Order (List Code))) (c : Claim) → b.settings.asks ≡ false → NonePriced ctx b orders → standing_for c.fill before ≡ None → slice_get orders k ≡ Some (Ok (Bills c))
    → slice_get (rulings_from ctx b advice before id place orders) k ≡ Some (Rejected (NotCovered ∷ []))
unpriced_rejected ctx b advice before id place k [] c by_plan none free at = absurd cc
unpriced_rejected ctx b advice before id place zero (order ∷ orders) c by_plan none free at =
    let same : order ≡ Ok (Bills c) = cc in
    ap (λ (r : Ruling). Some r) (ap (ruling ctx b advice before place) same ∙ rejects ctx b advice before place c by_plan free (none 0 c at))
unpriced_rejected ctx b advice before id place (suc k) (order ∷ orders) c by_plan none free at =
    let x : Ruled = ruled id place order (ruling ctx b advice before place order) in
    unpriced_rejected ctx b advice (before ++ x ∷ []) id (place + 1) k orders c by_plan (λ i d e. none (suc i) d e)
    (none_more c before x (unpriced ctx b advice before place order by_plan (λ d e. none 0 d (ap (λ (o : Result Order (List Code)). Some o) e))) free) at
