-- The rulings of a request can be told in an answer, and so can the payments that they leave standing.
use Rattle.std.proofs.Common.{◌≡◌, ℕ, suc, ◌≤◌, Bool, true, false, not, ◌&&◌, cond, List, [], ◌∷◌, ◌++◌, length, Option, Some, None, Result, Ok, Err, refl, sym, ap, subst, arith, leb-true}
use Rattle.std.specs.Prelude.{filter, slice_get}
use Rattle.std.proofs.lemmas.Option.{same_Some as same_some}
use Rattle.std.specs.List.{AllByRecursion, list_all}
use Rattle.std.proofs.lemmas.Bool.{and_parts}
use Rattle.claim_profile.specs.Ruling.{IsCode}
use Rattle.claim_model.proofs.Tests.{nat_self}
use Rattle.plan_rules.specs.Pricing.{paid}
use Rattle.claim_model.specs.Words.{TxnId, Auth, Amounts, Claim, Reversal, Order, Bills, Reverses, Code, NotCovered, DuplicateClaim, ReversalNotProcessed, Plan, Ruling, Paid, Duplicate, Reversed, Rejected, RequestHeader}
use Rattle.claim_model.specs.Payments.{same_auth}
use Rattle.claim_model.specs.Judgement.{only, same_claim, Unpriced, Verdict, Pays, Rejects, planned, verdict_in, priced, Consent, Allows, Denies, consent_in, taken_back}
use Rattle.claim_model.specs.Laws.{IsAmounts, IsVerdict, IsConsent, IsClaimOf, IsOrderOf, IsPrescription, IsRuling}
use Rattle.claim_model.specs.Book.{serial_fits, last_serial}
use Rattle.claim_model.proofs.Lists.{all_append, all_filter, find_all}
use Rattle.claim_model.proofs.Written.{only_all, consented_written}
use Rattle.payer_book.specs.declared.book.payment.Standing.{Standing}
use Rattle.payer_book.specs.declared.book.payment.Payment.{Payment}
use Rattle.payer_book.specs.declared.ruling.changes.Change.{Change}
use Rattle.payer_book.specs.Ledger.{Ledger, standing_in, standing_of, is_of, is_for_payment}
use Rattle.payer_book.specs.Changes.{change_by, changes_by, standing_with, standing_after, payments_with, payments_after}
use Rattle.payer_book.specs.Drafts.{claim_on, reversal_on, judged_on, Pricing, ByPlan, AsKept, amounts_in, kept_verdict, price_at, consent_at, auth_after, ruling_by, ruling_on, rulings_on}
use Rattle.payer_book.specs.MadeBooks.{IsTold, ArePrices}
use Rattle.payer_book.proofs.Growth.{standing_more, after_more}

-- one code
one_code : (code : Code) → IsCode code → IsRuling (Rejected (code ∷ []))
one_code code is = record { some = omega arith; few = omega arith; each = (is, tt) }

-- a draft's ruling
module _ (auth : Auth) (payer : 1 ≤ auth.payer) (payer_fits : auth.payer ≤ 9999) (serial : 1 ≤ auth.serial) (prices : Pricing) (k : ℕ) (h : RequestHeader)
    (verdicts : (c : Claim) (v : Verdict) → IsClaimOf h c → price_at prices k c ≡ Some v → IsVerdict v)
    (consents : (v : Reversal) (x : Consent) → consent_at prices k v ≡ Some x → IsConsent x) (standing : List Standing) (told : AllByRecursion IsTold standing) where
  priced_told : (c : Claim) (o : Option Verdict) → IsClaimOf h c → price_at prices k c ≡ o → serial_fits (priced auth c o) ≡ true → IsRuling (priced auth c o)
  priced_told c None of_it e fits = one_code NotCovered refl
  priced_told c (Some (Rejects codes)) of_it e fits = verdicts c (Rejects codes) of_it e
  priced_told c (Some (Pays m)) of_it e fits =
      (record { payer = omega (arith, payer); payer_fits = payer_fits; serial = omega (arith, serial); serial_fits = leb-true auth.serial last_serial fits }, of_it.prescription, verdicts c (Pays m) of_it e)

  claim_told : (c : Claim) (o : Option Standing) → IsClaimOf h c → standing_of c.fill standing ≡ o → serial_fits (ruling_by auth prices k (claim_on c o)) ≡ true → IsRuling (ruling_by auth prices k (claim_on c o))
  claim_told c None of_it e fits = priced_told c (price_at prices k c) of_it refl fits
  claim_told c (Some s) of_it e fits = by_test (same_claim s.claim c)
    where
      by_test : (b : Bool) → IsRuling (ruling_by auth prices k (cond b (Unpriced (Duplicate s.auth c.fill.prescription s.amounts)) (Unpriced (Rejected (DuplicateClaim ∷ [])))))
      by_test true = let t = find_all IsTold (is_of c.fill) standing s told e in (t.auth, of_it.prescription, t.amounts)
      by_test false = one_code DuplicateClaim refl

  reversal_told : (v : Reversal) (o : Option Standing) → IsPrescription v.prescription → only (filter (is_for_payment v) standing) ≡ o → IsRuling (ruling_by auth prices k (reversal_on v o))
  reversal_told v None n e = one_code ReversalNotProcessed refl
  reversal_told v (Some s) n e = by_consent (consent_at prices k v) refl
    where
      by_consent : (o : Option Consent) → consent_at prices k v ≡ o → IsRuling (taken_back s.auth v o)
      by_consent None is = one_code ReversalNotProcessed refl
      by_consent (Some Allows) is = ((only_all IsTold (filter (is_for_payment v) standing) s (all_filter IsTold (is_for_payment v) standing told) e).auth, n)
      by_consent (Some (Denies codes)) is = consents v (Denies codes) is

  pub settled_told : (order : Result Order (List Code)) → IsOrderOf h order → serial_fits (ruling_by auth prices k (judged_on standing order)) ≡ true → IsRuling (ruling_by auth prices k (judged_on standing order))
  settled_told (Err codes) of_it fits = of_it
  settled_told (Ok (Bills c)) of_it fits = claim_told c (standing_of c.fill standing) of_it refl fits
  settled_told (Ok (Reverses v)) of_it fits = reversal_told v (only (filter (is_for_payment v) standing)) of_it.prescription refl

-- what stands after a ruling that can be told
pub change_told : (order : Result Order (List Code)) (r : Ruling) (standing : List Standing) → IsRuling r → AllByRecursion IsTold standing → AllByRecursion IsTold (standing_with standing (change_by order r))
change_told (Ok (Bills c)) (Paid auth n m) standing is told = all_append IsTold standing _ told (record { auth = is.0; amounts = is.2 }, tt)
change_told (Ok (Reverses v)) (Paid auth n m) standing is told = told
change_told (Err codes) (Paid auth n m) standing is told = told
change_told order (Duplicate auth n m) standing is told = told
change_told order (Reversed auth n) standing is told = all_filter IsTold (λ (s : Standing). not (same_auth auth s.auth)) standing told
change_told order (Rejected codes) standing is told = told

-- verdicts and consents that can be written
pub record PricesFit (h : RequestHeader) (prices : Pricing) : Type 0 where
  pub verdicts : (k : ℕ) (c : Claim) (v : Verdict) → IsClaimOf h c → price_at prices k c ≡ Some v → IsVerdict v
  pub consents : (k : ℕ) (v : Reversal) (x : Consent) → consent_at prices k v ≡ Some x → IsConsent x

-- the rulings of a request
module _ (l : Ledger) (prices : Pricing) (h : RequestHeader) (payer : 1 ≤ l.payer) (payer_fits : l.payer ≤ 9999) (serial : 1 ≤ l.first) (amounts : PricesFit h prices) where
  ruling_told : (changes : List Change) (order : Result Order (List Code)) → AllByRecursion IsTold (standing_after (standing_in l.payments) changes) → IsOrderOf h order → serial_fits (ruling_on l prices changes order) ≡ true
      → IsRuling (ruling_on l prices changes order)
  unfolding ruling_on
  ruling_told changes order told of_it fits =
      settled_told (auth_after l changes) payer payer_fits (omega (arith, serial)) prices (length changes) h (amounts.verdicts (length changes)) (amounts.consents (length changes)) (standing_after (standing_in l.payments) changes) told order of_it fits

  pub rulings_told : (changes : List Change) (orders : List (Result Order (List Code))) → AllByRecursion IsTold (standing_after (standing_in l.payments) changes) → AllByRecursion (IsOrderOf h) orders
      → list_all serial_fits (rulings_on l prices changes orders) ≡ true → AllByRecursion IsRuling (rulings_on l prices changes orders)
  rulings_told changes [] told all fit = tt
  rulings_told changes (order ∷ orders) told all fit =
      let r : Ruling = ruling_on l prices changes order in
      let fits = and_parts (serial_fits r) _ fit in
      let is : IsRuling r = ruling_told changes order told all.0 fits.0 in
      let next : AllByRecursion IsTold (standing_after (standing_in l.payments) (changes ++ change_by order r ∷ [])) =
      subst (AllByRecursion IsTold) (sym (after_more (standing_in l.payments) changes (change_by order r))) (change_told order r (standing_after (standing_in l.payments) changes) is told) in
      (is, rulings_told (changes ++ change_by order r ∷ []) orders next all.1 fits.1)

-- the standing payments of a book that goes on with such rulings
pub after_told : (id : TxnId) (ps : List Payment) (orders : List (Result Order (List Code))) (rulings : List Ruling) → AllByRecursion IsTold (standing_in ps) → AllByRecursion IsRuling rulings
    → AllByRecursion IsTold (standing_in (payments_after id ps (changes_by orders rulings)))
after_told id ps [] rulings told all = told
after_told id ps (order ∷ orders) [] told all = told
after_told id ps (order ∷ orders) (r ∷ rulings) told all =
    after_told id (payments_with id ps (change_by order r)) orders rulings
    (subst (AllByRecursion IsTold) (sym (standing_more id ps (change_by order r))) (change_told order r (standing_in ps) all.0 told)) all.1

-- verdicts of a plan, and those of an answer

planned_fits : (law : (plan : Plan) (h : RequestHeader) (c : Claim) (m : Amounts) → IsClaimOf h c → paid plan c ≡ Some m → IsAmounts m) (plan : Plan) (h : RequestHeader) (c : Claim) → IsClaimOf h c → (o : Option Amounts) → paid plan c ≡ o → IsVerdict (planned o)
planned_fits law plan h c of_it None e = record { some = omega arith; few = omega arith; each = (refl, tt) }
planned_fits law plan h c of_it (Some m) e = law plan h c m of_it e

-- what an answer pays is a verdict of it
pays_fit : (o : Option Ruling) → ((claimed : ℕ) (v : Verdict) → verdict_in claimed o ≡ Some v → IsVerdict v) → IsVerdict (planned (amounts_in o))
pays_fit None well = record { some = omega arith; few = omega arith; each = (refl, tt) }
pays_fit (Some (Paid auth n m)) well = well n (Pays m) (ap (λ (t : Bool). cond t (Some (Pays m)) None) (nat_self n))
pays_fit (Some (Duplicate auth n m)) well = record { some = omega arith; few = omega arith; each = (refl, tt) }
pays_fit (Some (Reversed auth n)) well = record { some = omega arith; few = omega arith; each = (refl, tt) }
pays_fit (Some (Rejected codes)) well = record { some = omega arith; few = omega arith; each = (refl, tt) }

kept_fits : (asks : Bool) (claimed : ℕ) (o : Option Ruling) (v : Verdict) → ((n : ℕ) (w : Verdict) → verdict_in n o ≡ Some w → IsVerdict w) → kept_verdict asks claimed o ≡ Some v → IsVerdict v
kept_fits true claimed o v well e = well claimed v e
kept_fits false claimed o v well e = subst IsVerdict (same_some (planned (amounts_in o)) v e) (pays_fit o well)

consents_fit : (prices : Pricing) → ArePrices prices → (k : ℕ) (v : Reversal) (x : Consent) → consent_at prices k v ≡ Some x → IsConsent x
consents_fit (ByPlan plan) are k v x e = subst IsConsent (same_some Allows x e) tt
consents_fit (AsKept a said) are k v x e = by_asks (a.asks && a.reversals) e
  where
    by_asks : (t : Bool) → cond t (consent_in v.prescription (slice_get said k)) (Some Allows) ≡ Some x → IsConsent x
    by_asks true h = consented_written v.prescription (slice_get said k) (λ n w at. are (suc k) n w at) x h
    by_asks false h = subst IsConsent (same_some Allows x h) tt

verdicts_fit : ((plan : Plan) (h : RequestHeader) (c : Claim) (m : Amounts) → IsClaimOf h c → paid plan c ≡ Some m → IsAmounts m) → (h : RequestHeader) (prices : Pricing) → ArePrices prices
    → (k : ℕ) (c : Claim) (v : Verdict) → IsClaimOf h c → price_at prices k c ≡ Some v → IsVerdict v
verdicts_fit law h (ByPlan plan) are k c v of_it e = subst IsVerdict (same_some (planned (paid plan c)) v e) (planned_fits law plan h c of_it (paid plan c) refl)
verdicts_fit law h (AsKept a said) are k c v of_it e = kept_fits a.asks c.fill.prescription (slice_get said k) v (λ n w at. are (suc k) n w at) e

pub prices_fit : ((plan : Plan) (h : RequestHeader) (c : Claim) (m : Amounts) → IsClaimOf h c → paid plan c ≡ Some m → IsAmounts m) → (h : RequestHeader) (prices : Pricing) → ArePrices prices → PricesFit h prices
prices_fit law h prices are = record { verdicts = verdicts_fit law h prices are; consents = consents_fit prices are }
