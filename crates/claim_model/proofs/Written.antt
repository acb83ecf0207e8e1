-- The rulings of a new row can be written.
use Rattle.std.proofs.Common.{◌≡◌, ℕ, ◌+◌, ◌<◌, ◌≤◌, Bool, true, false, ◌==◌, cond, List, [], ◌∷◌, ◌++◌, length, Option, Some, None, Result, Ok, Err, refl, ap, subst, arith, leb-true}
use Rattle.std.specs.List.{AllByRecursion, list_all}
use Rattle.std.proofs.lemmas.Bool.{and_parts}
use Rattle.claim_profile.specs.Ruling.{IsCode}
use Rattle.claim_model.specs.Words.{Advice, TxnId, Auth, Amounts, Claim, Reversal, Order, Bills, Reverses, Code, Ruling, Paid, Duplicate, Reversed, Rejected, RequestHeader}
use Rattle.claim_model.specs.Context.{Context}
use Rattle.claim_model.specs.Laws.{Laws, IsClaimOf, IsOrderOf, IsAuth, IsAmounts, IsVerdict, IsConsent, AdvisesWell, IsRuling, IsPrescription, IsRejects}
use Rattle.claim_model.specs.Ruled.{Ruled, ruled, ruled_from}
use Rattle.claim_model.specs.Payments.{Payment, payment_by, payments, is_standing, standing}
use Rattle.claim_model.specs.Rows.{Row, Book, ruled_row, ruled_rows}
use Rattle.claim_model.specs.Judgement.{standing_for, only, payment_to_reverse, Unpriced, same_claim, is_for, judged_claim, judged_reversal, judged, next_serial, next_auth, Verdict, Pays, Rejects, planned, verdict_in, verdict_of, priced, Consent, Allows, Denies, consent_in, asks_reversals, consent_of, taken_back, ruling_of, ruling, rulings_from}
use Rattle.claim_model.specs.Book.{serial_fits}
use Rattle.claim_model.specs.Numbered.{numbered}
use Rattle.claim_model.proofs.Lists.{all_append, all_filter, find_all}
use Rattle.claim_model.proofs.Options.{same_some}

-- what a payment has can be written
abbrev pub IsWritten : Payment → Type 0
IsWritten p = IsAuth p.auth × IsAmounts p.amounts

abbrev pub RuledWritten : Ruled → Type 0
RuledWritten r = IsRuling r.ruling

payment_by_written : (r : Ruled) (later : List Ruled) (order : Result Order (List Code)) (given : Ruling) → IsRuling given → AllByRecursion IsWritten (payment_by r later order given)
payment_by_written r later (Ok (Bills c)) (Paid auth n m) w = ((w.0, w.2), tt)
payment_by_written r later (Ok (Bills c)) (Duplicate auth n m) w = tt
payment_by_written r later (Ok (Bills c)) (Reversed auth n) w = tt
payment_by_written r later (Ok (Bills c)) (Rejected codes) w = tt
payment_by_written r later (Ok (Reverses v)) given w = tt
payment_by_written r later (Err codes) given w = tt

pub payments_written : (rs : List Ruled) → AllByRecursion RuledWritten rs → AllByRecursion IsWritten (payments rs)
payments_written [] w = tt
payments_written (r ∷ rs) w = all_append IsWritten _ (payments rs) (payment_by_written r rs r.order r.ruling w.0) (payments_written rs w.1)

standing_written : (rs : List Ruled) → AllByRecursion RuledWritten rs → AllByRecursion IsWritten (standing rs)
standing_written rs w = all_filter IsWritten is_standing (payments rs) (payments_written rs w)

pub only_all : {A : Type 0} (P : A → Type 0) (xs : List A) (a : A) → AllByRecursion P xs → only xs ≡ Some a → P a
only_all P [] a all h = absurd cc
only_all P (x ∷ []) a all h = let e : x ≡ a = cc in subst P e all.0
only_all P (x ∷ y ∷ more) a all h = absurd cc

-- the book's payer and its next serial make an authorization
pub record MayPay (b : Book) : Type 0 where
  pub payer : 0 < b.payer
  pub payer_fits : b.payer ≤ 9999
  pub serial : 0 < b.settings.serial

one_code : (code : Code) → IsCode code → IsRejects (code ∷ [])
one_code code is = record { some = omega arith; few = omega arith; each = (is, tt) }

priced_written : (ctx : Context) (h : RequestHeader) (b : Book) (before : List Ruled) (c : Claim) (o : Option Verdict) → MayPay b
    → IsPrescription c.fill.prescription → ((v : Verdict) → o ≡ Some v → IsVerdict v) → serial_fits (priced (next_auth b before) c o) ≡ true → IsRuling (priced (next_auth b before) c o)
priced_written ctx h b before c None may n fits s = one_code _ refl
priced_written ctx h b before c (Some (Rejects codes)) may n fits s = fits (Rejects codes) refl
priced_written ctx h b before c (Some (Pays m)) may n fits s =
    let le : next_serial b before ≤ 999999999999 = leb-true _ _ s in
    (record { payer = may.payer; payer_fits = may.payer_fits; serial = omega (arith, may.serial); serial_fits = le }, n, fits (Pays m) refl)

planned_written : (ctx : Context) (laws : Laws ctx) (b : Book) (c : Claim) (h : RequestHeader) → IsClaimOf h c → (o : Option Amounts) → ctx.price b.plan c ≡ o → IsVerdict (planned o)
planned_written ctx laws b c h of_it None e = one_code _ refl
planned_written ctx laws b c h of_it (Some m) e = laws.prices b.plan h c m of_it e

verdict_written : (ctx : Context) (laws : Laws ctx) (b : Book) (advice : Advice) (place : ℕ) (c : Claim) (h : RequestHeader) → AdvisesWell advice.rulings → IsClaimOf h c → (v : Verdict) → verdict_of ctx b advice place c ≡ Some v → IsVerdict v
verdict_written ctx laws b advice place c h well of_it v e = by_asks b.settings.asks e
  where
    by_asks : (t : Bool) → cond t (verdict_in c.fill.prescription (numbered advice.rulings place)) (Some (planned (ctx.price b.plan c))) ≡ Some v → IsVerdict v
    by_asks true k = well place c.fill.prescription v k
    by_asks false k = subst IsVerdict (same_some _ v k) (planned_written ctx laws b c h of_it (ctx.price b.plan c) refl)

judged_claim_written : (ctx : Context) (laws : Laws ctx) (b : Book) (advice : Advice) (before : List Ruled) (place : ℕ) (c : Claim) (h : RequestHeader) (o : Option Payment) → AdvisesWell advice.rulings → MayPay b → IsClaimOf h c
    → ((p : Payment) → o ≡ Some p → IsWritten p) → serial_fits (ruling_of ctx b advice before place (judged_claim c o)) ≡ true → IsRuling (ruling_of ctx b advice before place (judged_claim c o))
judged_claim_written ctx laws b advice before place c h None well may of_it w s =
    priced_written ctx h b before c (verdict_of ctx b advice place c) may of_it.prescription (verdict_written ctx laws b advice place c h well of_it) s
judged_claim_written ctx laws b advice before place c h (Some p) well may of_it w s = go (same_claim p.claim c)
  where
    go : (t : Bool) → IsRuling (ruling_of ctx b advice before place (cond t (Unpriced (Duplicate p.auth c.fill.prescription p.amounts)) (Unpriced (Rejected (Code.DuplicateClaim ∷ [])))))
    go true = let q = w p refl in (q.0, of_it.prescription, q.1)
    go false = one_code _ refl

-- codes that deny a reversal are those of an advice, and can be written as those that reject a claim
pub consented_written : (asked : ℕ) (o : Option Ruling) → ((n : ℕ) (v : Verdict) → verdict_in n o ≡ Some v → IsVerdict v) → (k : Consent) → consent_in asked o ≡ Some k → IsConsent k
consented_written asked None well k e = absurd cc
consented_written asked (Some (Paid auth prescription amounts)) well k e = absurd cc
consented_written asked (Some (Duplicate auth prescription amounts)) well k e = absurd cc
consented_written asked (Some (Reversed auth prescription)) well k e = by_test (prescription == asked) e
  where
    by_test : (t : Bool) → cond t (Some Allows) None ≡ Some k → IsConsent k
    by_test true h = subst IsConsent (same_some Allows k h) tt
    by_test false h = absurd cc
consented_written asked (Some (Rejected codes)) well k e = subst IsConsent (same_some (Denies codes) k e) (well asked (Rejects codes) refl)

consent_written : (b : Book) (advice : Advice) (place : ℕ) (v : Reversal) → AdvisesWell advice.rulings → (k : Consent) → consent_of b advice place v ≡ Some k → IsConsent k
consent_written b advice place v well k e = by_asks (asks_reversals b.settings) e
  where
    by_asks : (t : Bool) → cond t (consent_in v.prescription (numbered advice.rulings place)) (Some Allows) ≡ Some k → IsConsent k
    by_asks true h = consented_written v.prescription (numbered advice.rulings place) (λ n w q. well place n w q) k h
    by_asks false h = subst IsConsent (same_some Allows k h) tt

taken_back_written : (auth : Auth) (v : Reversal) (o : Option Consent) → IsAuth auth → IsPrescription v.prescription → ((k : Consent) → o ≡ Some k → IsConsent k) → IsRuling (taken_back auth v o)
taken_back_written auth v None a n w = one_code _ refl
taken_back_written auth v (Some Allows) a n w = (a, n)
taken_back_written auth v (Some (Denies codes)) a n w = w (Denies codes) refl

judged_reversal_written : (ctx : Context) (b : Book) (advice : Advice) (before : List Ruled) (place : ℕ) (v : Reversal) (o : Option Payment) → AdvisesWell advice.rulings → IsPrescription v.prescription
    → ((p : Payment) → o ≡ Some p → IsWritten p) → IsRuling (ruling_of ctx b advice before place (judged_reversal v o))
judged_reversal_written ctx b advice before place v None well n w = one_code _ refl
judged_reversal_written ctx b advice before place v (Some p) well n w = taken_back_written p.auth v (consent_of b advice place v) (w p refl).0 n (consent_written b advice place v well)

pub ruling_written : (ctx : Context) (laws : Laws ctx) (b : Book) (advice : Advice) (before : List Ruled) (place : ℕ) (h : RequestHeader) (order : Result Order (List Code)) → AdvisesWell advice.rulings → MayPay b → AllByRecursion RuledWritten before
    → IsOrderOf h order → serial_fits (ruling ctx b advice before place order) ≡ true → IsRuling (ruling ctx b advice before place order)
unfolding ruling judged
ruling_written ctx laws b advice before place h (Err codes) well may w o s = o
ruling_written ctx laws b advice before place h (Ok (Bills c)) well may w o s =
    judged_claim_written ctx laws b advice before place c h (standing_for c.fill before) well may o
    (λ p e. find_all IsWritten _ (standing before) p (standing_written before w) e) s
ruling_written ctx laws b advice before place h (Ok (Reverses v)) well may w o s =
    judged_reversal_written ctx b advice before place v (payment_to_reverse v before) well o.prescription
    (λ p e. only_all IsWritten _ p (all_filter IsWritten (λ (q : Payment). is_for v q.claim) (standing before) (standing_written before w)) e)

pub rulings_written : (ctx : Context) (laws : Laws ctx) (b : Book) (advice : Advice) (before : List Ruled) (h : RequestHeader) (id : TxnId) (place : ℕ) (orders : List (Result Order (List Code))) → AdvisesWell advice.rulings → MayPay b
    → AllByRecursion RuledWritten before → AllByRecursion (IsOrderOf h) orders → list_all serial_fits (rulings_from ctx b advice before id place orders) ≡ true
    → AllByRecursion IsRuling (rulings_from ctx b advice before id place orders)
rulings_written ctx laws b advice before h id place [] well may w o s = tt
rulings_written ctx laws b advice before h id place (order ∷ orders) well may w o s =
    let p = and_parts (serial_fits (ruling ctx b advice before place order)) (list_all serial_fits (rulings_from ctx b advice (before ++ ruled id place order (ruling ctx b advice before place order) ∷ []) id (place + 1) orders)) s in
    let r : IsRuling (ruling ctx b advice before place order) = ruling_written ctx laws b advice before place h order well may w o.0 p.0 in
    (r, rulings_written ctx laws b advice (before ++ ruled id place order (ruling ctx b advice before place order) ∷ []) h id (place + 1) orders well may (all_append RuledWritten before _ w (r, tt)) o.1 p.1)

pub length_rulings : (ctx : Context) (b : Book) (advice : Advice) (before : List Ruled) (id : TxnId) (place : ℕ) (orders : List (Result Order (List Code))) → length (rulings_from ctx b advice before id place orders) ≡ length orders
length_rulings ctx b advice before id place [] = refl
length_rulings ctx b advice before id place (order ∷ orders) = ap Rattle.std.proofs.Common.suc (length_rulings ctx b advice (before ++ ruled id place order (ruling ctx b advice before place order) ∷ []) id (place + 1) orders)

-- rows with rulings that can be written make such a list of rulings

ruled_from_written : (id : TxnId) (place : ℕ) (orders : List (Result Order (List Code))) (rs : List Ruling) → AllByRecursion IsRuling rs → AllByRecursion RuledWritten (ruled_from id place orders rs)
ruled_from_written id place [] rs w = tt
ruled_from_written id place (o ∷ os) [] w = tt
ruled_from_written id place (o ∷ os) (r ∷ rs) w = (w.0, ruled_from_written id (place + 1) os rs w.1)

pub rows_written : (ctx : Context) (rows : List Row) → AllByRecursion (λ (row : Row). AllByRecursion IsRuling row.rulings) rows → AllByRecursion RuledWritten (ruled_rows ctx rows)
rows_written ctx [] w = tt
rows_written ctx (row ∷ rows) w = all_append RuledWritten (ruled_row ctx row) (ruled_rows ctx rows) (ruled_from_written row.id 1 (ctx.orders row.request) row.rulings w.0) (rows_written ctx rows w.1)
