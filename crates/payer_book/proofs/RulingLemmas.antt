-- The rulings of the model are those over the payments that the code keeps.
use Rattle.std.proofs.Common.{◌≡◌, ℕ, suc, ◌+◌, Bool, true, false, cond, List, [], ◌∷◌, ◌++◌, length, Option, Some, None, Result, Ok, Err, refl, sym, ap, ◌∙◌, subst, append_assoc, arith, length-append}
use Rattle.std.specs.Prelude.{find, filter, count_by, IsSome, is_some, slice_get, ◌&&◌}
use Rattle.std.specs.List.{AllByRecursion}
use Rattle.std.proofs.lemmas.List.{append-nil, length-map}
use Rattle.std.proofs.lemmas.Bool.{cond-true, cond-false}
use Rattle.std.proofs.lemmas.List.Sums.{sum_by-append}
use Rattle.std.proofs.lemmas.Option.{same_Some as same_some}
use Rattle.bin_routes.specs.Table.{RouteMaps}
use Rattle.plan_rules.specs.Pricing.{paid}
use Rattle.claim_profile.specs.declared.ruling.HeaderStatus.TheVariants.{Accepted}
use Rattle.claim_profile.specs.Answer.{IsPrescription, IsWritable, AreWritable}
use Rattle.claim_model.specs.Words.{Advice, TxnId, Auth, Claim, Reversal, Order, Bills, Reverses, Code, Ruling, Duplicate, Rejected, RequestHeader}
use Rattle.claim_model.specs.Context.{Context}
use Rattle.claim_model.specs.Laws.{IsOrderOf}
use Rattle.claim_model.specs.Bytes.{bytes_with}
use Rattle.claim_model.specs.Ruled.{Ruled, ruled, ruled_from}
use Rattle.claim_model.specs.Rows.{Book}
use Rattle.claim_model.specs.Judgement.{only, same_claim, is_paid, Judged, Unpriced, ToPrice, ToReverse, judged, next_auth, Verdict, Pays as PaysOut, Rejects, planned, verdict_in, verdict_of, priced, Consent, Allows, Denies, consent_in, consent_of, taken_back, ruling_of, ruling, rulings_from, is_advised, all_advised}
use Rattle.claim_model.specs.Payments.{same_auth}
use Rattle.payer_book.specs.declared.book.payment.Standing.{Standing}
use Rattle.payer_book.specs.declared.book.payment.Payment.{Payment}
use Rattle.payer_book.specs.declared.ruling.changes.Change.{Change}
use Rattle.payer_book.specs.declared.ruling.changes.Change.TheVariants.{Pays, Reverses as ReversesPayment, Keeps as KeepsAll}
use Rattle.payer_book.specs.Ledger.{Ledger, standing_in, standing_of, is_for_payment, after_reversal, HasFillNumber}
use Rattle.payer_book.specs.Changes.{change_by, changes_by, pays, standing_with, standing_after, payments_with, payments_after, IsPossible, ArePossible}
use Rattle.payer_book.specs.Drafts.{claim_on, reversal_on, judged_on, Pricing, ByPlan, asking_of, AsKept, pricing_of, amounts_in, price_at, consent_at, auth_after, ruling_by, ruling_on, rulings_on, advised_by, advised_on, all_advised_on}
use Rattle.payer_book.specs.Books.{payments_of, count_paid, Keeps, OrderNumbered}
use Rattle.payer_book.proofs.Growth.{payments_more, standing_more, after_more, judged_same}
use Rattle.claim_model.proofs.Tests.{auth_self}

-- a ruling pays where its change does

priced_pays : (auth : Auth) (c : Claim) (o : Option Verdict) → is_paid (priced auth c o) ≡ pays (change_by (Ok (Bills c)) (priced auth c o))
priced_pays auth c None = refl
priced_pays auth c (Some (Rejects codes)) = refl
priced_pays auth c (Some (PaysOut m)) = refl

claim_pays : (auth : Auth) (prices : Pricing) (k : ℕ) (c : Claim) (o : Option Standing) → is_paid (ruling_by auth prices k (claim_on c o)) ≡ pays (change_by (Ok (Bills c)) (ruling_by auth prices k (claim_on c o)))
claim_pays auth prices k c None = priced_pays auth c (price_at prices k c)
claim_pays auth prices k c (Some s) = by_test (same_claim s.claim c)
  where
    by_test : (b : Bool) → is_paid (ruling_by auth prices k (cond b (Unpriced (Duplicate s.auth c.fill.prescription s.amounts)) (Unpriced (Rejected (Code.DuplicateClaim ∷ [])))))
        ≡ pays (change_by (Ok (Bills c)) (ruling_by auth prices k (cond b (Unpriced (Duplicate s.auth c.fill.prescription s.amounts)) (Unpriced (Rejected (Code.DuplicateClaim ∷ []))))))
    by_test true = refl
    by_test false = refl

reversal_pays : (auth : Auth) (prices : Pricing) (k : ℕ) (v : Reversal) (o : Option Standing) → is_paid (ruling_by auth prices k (reversal_on v o)) ≡ pays (change_by (Ok (Reverses v)) (ruling_by auth prices k (reversal_on v o)))
reversal_pays auth prices k v None = refl
reversal_pays auth prices k v (Some s) = by_consent (consent_at prices k v)
  where
    by_consent : (o : Option Consent) → is_paid (taken_back s.auth v o) ≡ pays (change_by (Ok (Reverses v)) (taken_back s.auth v o))
    by_consent None = refl
    by_consent (Some Allows) = refl
    by_consent (Some (Denies codes)) = refl

settled_pays : (auth : Auth) (prices : Pricing) (k : ℕ) (standing : List Standing) (order : Result Order (List Code))
    → is_paid (ruling_by auth prices k (judged_on standing order)) ≡ pays (change_by order (ruling_by auth prices k (judged_on standing order)))
settled_pays auth prices k standing (Err codes) = refl
settled_pays auth prices k standing (Ok (Bills c)) = claim_pays auth prices k c (standing_of c.fill standing)
settled_pays auth prices k standing (Ok (Reverses v)) = reversal_pays auth prices k v (only (filter (is_for_payment v) standing))

pub ruling_pays : (l : Ledger) (prices : Pricing) (changes : List Change) (order : Result Order (List Code)) → is_paid (ruling_on l prices changes order) ≡ pays (change_by order (ruling_on l prices changes order))
unfolding ruling_on
ruling_pays l prices changes order = settled_pays (auth_after l changes) prices (length changes) (standing_after (standing_in l.payments) changes) order

pub count_more : (before : List Ruled) (x : Ruled) (changes : List Change) (change : Change) → is_paid x.ruling ≡ pays change → count_paid (before ++ x ∷ []) + count_by pays changes ≡ count_paid before + count_by pays (changes ++ change ∷ [])
count_more before x changes change same =
    let e = sum_by-append (λ (r : Ruled). cond (is_paid r.ruling) 1 0) before (x ∷ []) in
    let f = sum_by-append (λ (d : Change). cond (pays d) 1 0) changes (change ∷ []) in
    let g : cond (is_paid x.ruling) 1 0 ≡ cond (pays change) 1 0 = ap {B = ℕ} (λ b. cond b 1 0) same in
    omega (arith, e, f, g)

-- the model's ruling

-- the standing payments, one ruling on
pub next_stands : (l : Ledger) (id : TxnId) (place : ℕ) (before : List Ruled) (changes : List Change) (order : Result Order (List Code)) (r : Ruling) → standing_in (payments_of before) ≡ standing_after (standing_in l.payments) changes
    → standing_in (payments_of (before ++ ruled id place order r ∷ [])) ≡ standing_after (standing_in l.payments) (changes ++ change_by order r ∷ [])
next_stands l id place before changes order r stands =
    ap standing_in (payments_more before (ruled id place order r))
    ∙ (standing_more id (payments_of before) (change_by order r)
    ∙ (ap (λ (ss : List Standing). standing_with ss (change_by order r)) stands ∙ sym (after_more (standing_in l.payments) changes (change_by order r))))

pub auth_same : (b : Book) (l : Ledger) → l.payer ≡ b.payer → (before : List Ruled) (changes : List Change) → b.settings.serial + count_paid before ≡ l.first + length l.payments + count_by pays changes → next_auth b before ≡ auth_after l changes
auth_same b l payer before changes e = let p : b.payer ≡ l.payer = sym payer in λ i. record { payer = p i; serial = e i }

-- a book's verdicts are those of its pricing

pub verdict_same : (routes : RouteMaps) (b : Book) (advice : Advice) (k : ℕ) (c : Claim) → verdict_of (bytes_with routes) b advice (suc k) c ≡ price_at (pricing_of b advice) k c
verdict_same routes b advice k c = by_asks b.settings.asks refl
  where
    by_asks : (t : Bool) → b.settings.asks ≡ t → cond t (verdict_in c.fill.prescription (slice_get advice.rulings k)) (Some (planned (paid b.plan c))) ≡ price_at (cond t (AsKept (asking_of b.settings) advice.rulings) (ByPlan b.plan)) k c
    by_asks true is = ap (λ (t : Bool). cond t (verdict_in c.fill.prescription (slice_get advice.rulings k)) (Some (planned (amounts_in (slice_get advice.rulings k))))) (sym is)
    by_asks false is = refl

-- and so are its consents
pub consent_same : (b : Book) (advice : Advice) (k : ℕ) (v : Reversal) → consent_of b advice (suc k) v ≡ consent_at (pricing_of b advice) k v
consent_same b advice k v = by_asks b.settings.asks refl
  where
    by_asks : (t : Bool) → b.settings.asks ≡ t → consent_of b advice (suc k) v ≡ consent_at (cond t (AsKept (asking_of b.settings) advice.rulings) (ByPlan b.plan)) k v
    by_asks true is = refl
    by_asks false is = ap (λ (t : Bool). cond (t && b.settings.reversals) (consent_in v.prescription (slice_get advice.rulings k)) (Some Allows)) is

module _ (routes : RouteMaps) (b : Book) (l : Ledger) (payer : l.payer ≡ b.payer) (advice : Advice) (prices : Pricing)
    (verdicts : (k : ℕ) (c : Claim) → verdict_of (bytes_with routes) b advice (suc k) c ≡ price_at prices k c)
    (consents : (k : ℕ) (v : Reversal) → consent_of b advice (suc k) v ≡ consent_at prices k v) where
  abbrev ctx : Context
  ctx = bytes_with routes

  settled_same : (before : List Ruled) (auth : Auth) (k : ℕ) (j : Judged) → next_auth b before ≡ auth → ruling_of ctx b advice before (suc k) j ≡ ruling_by auth prices k j
  settled_same before auth k (Unpriced r) is = refl
  settled_same before auth k (ToPrice c) is = ap (λ (a : Auth). priced a c (verdict_of ctx b advice (suc k) c)) is ∙ ap (priced auth c) (verdicts k c)
  settled_same before auth k (ToReverse paid_under v) is = ap (taken_back paid_under v) (consents k v)

  judged_advised : (k : ℕ) (j : Judged) → is_advised ctx b advice (suc k) j ≡ advised_by prices k j
  judged_advised k (Unpriced r) = refl
  judged_advised k (ToPrice c) = ap is_some (verdicts k c)
  judged_advised k (ToReverse paid_under v) = ap is_some (consents k v)

  pub ruling_same : (before : List Ruled) (changes : List Change) (order : Result Order (List Code)) → standing_in (payments_of before) ≡ standing_after (standing_in l.payments) changes
      → b.settings.serial + count_paid before ≡ l.first + length l.payments + count_by pays changes → ruling ctx b advice before (suc (length changes)) order ≡ ruling_on l prices changes order
  unfolding ruling ruling_on
  ruling_same before changes order stands count =
      ap (ruling_of ctx b advice before (suc (length changes))) (judged_same before order ∙ ap (λ (ss : List Standing). judged_on ss order) stands)
      ∙ settled_same before (auth_after l changes) (length changes) (judged_on (standing_after (standing_in l.payments) changes) order) (auth_same b l payer before changes count)

  advised_same : (before : List Ruled) (changes : List Change) (order : Result Order (List Code)) → standing_in (payments_of before) ≡ standing_after (standing_in l.payments) changes
      → is_advised ctx b advice (suc (length changes)) (judged before order) ≡ advised_on l prices changes order
  unfolding advised_on
  advised_same before changes order stands =
      ap (is_advised ctx b advice (suc (length changes))) (judged_same before order ∙ ap (λ (ss : List Standing). judged_on ss order) stands)
      ∙ judged_advised (length changes) (judged_on (standing_after (standing_in l.payments) changes) order)

  pub rulings_same : (id : TxnId) (place : ℕ) (before : List Ruled) (changes : List Change) (orders : List (Result Order (List Code))) → place ≡ suc (length changes)
      → standing_in (payments_of before) ≡ standing_after (standing_in l.payments) changes → b.settings.serial + count_paid before ≡ l.first + length l.payments + count_by pays changes
      → rulings_from ctx b advice before id place orders ≡ rulings_on l prices changes orders
  rulings_same id place before changes [] at stands count = refl
  rulings_same id place before changes (order ∷ orders) at stands count =
      let r : Ruling = ruling ctx b advice before place order in
      let s : Ruling = ruling_on l prices changes order in
      let same : r ≡ s = ap (λ (n : ℕ). ruling ctx b advice before n order) at ∙ ruling_same before changes order stands count in
      let x : Ruled = ruled id place order r in
      let pay : is_paid r ≡ pays (change_by order r) = subst (λ (y : Ruling). is_paid y ≡ pays (change_by order y)) (sym same) (ruling_pays l prices changes order) in
      let more = count_more before x changes (change_by order r) pay in
      let next : place + 1 ≡ suc (length (changes ++ change_by order r ∷ [])) = omega (arith, at, length-append changes (change_by order r ∷ [])) in
      let rest : rulings_from ctx b advice (before ++ x ∷ []) id (place + 1) orders ≡ rulings_on l prices (changes ++ change_by order r ∷ []) orders =
      rulings_same id (place + 1) (before ++ x ∷ []) (changes ++ change_by order r ∷ []) orders next (next_stands l id place before changes order r stands) (omega (arith, count, more)) in
      ap (λ (rs : List Ruling). r ∷ rs) rest ∙ ap (λ (y : Ruling). y ∷ rulings_on l prices (changes ++ change_by order y ∷ []) orders) same

  -- and so is whether each wanted verdict is there
  pub all_advised_same : (id : TxnId) (place : ℕ) (before : List Ruled) (changes : List Change) (orders : List (Result Order (List Code))) → place ≡ suc (length changes)
      → standing_in (payments_of before) ≡ standing_after (standing_in l.payments) changes → b.settings.serial + count_paid before ≡ l.first + length l.payments + count_by pays changes
      → all_advised ctx b advice before id place orders ≡ all_advised_on l prices changes orders
  all_advised_same id place before changes [] at stands count = refl
  all_advised_same id place before changes (order ∷ orders) at stands count =
      let r : Ruling = ruling ctx b advice before place order in
      let s : Ruling = ruling_on l prices changes order in
      let same : r ≡ s = ap (λ (n : ℕ). ruling ctx b advice before n order) at ∙ ruling_same before changes order stands count in
      let x : Ruled = ruled id place order r in
      let pay : is_paid r ≡ pays (change_by order r) = subst (λ (y : Ruling). is_paid y ≡ pays (change_by order y)) (sym same) (ruling_pays l prices changes order) in
      let more = count_more before x changes (change_by order r) pay in
      let next : place + 1 ≡ suc (length (changes ++ change_by order r ∷ [])) = omega (arith, at, length-append changes (change_by order r ∷ [])) in
      let here : is_advised ctx b advice place (judged before order) ≡ advised_on l prices changes order = ap (λ (n : ℕ). is_advised ctx b advice n (judged before order)) at ∙ advised_same before changes order stands in
      let rest : all_advised ctx b advice (before ++ x ∷ []) id (place + 1) orders ≡ all_advised_on l prices (changes ++ change_by order r ∷ []) orders =
      all_advised_same id (place + 1) (before ++ x ∷ []) (changes ++ change_by order r ∷ []) orders next (next_stands l id place before changes order r stands) (omega (arith, count, more)) in
      ap (λ (t : Bool). t && all_advised ctx b advice (before ++ x ∷ []) id (place + 1) orders) here
      ∙ (ap (λ (t : Bool). advised_on l prices changes order && t) rest
      ∙ ap (λ (y : Ruling). advised_on l prices changes order && all_advised_on l prices (changes ++ change_by order y ∷ []) orders) same)

-- what is entered can be entered

some_in : {A : Type 0} (g f : A → Bool) (xs : List A) → IsSome (find g (filter f xs)) → IsSome (find g xs)
some_in g f [] h = h
some_in g f (x ∷ xs) h = by_test (g x) refl (f x) h (some_in g f xs)
  where
    by_test : (d : Bool) → g x ≡ d → (e : Bool) → IsSome (find g (cond e (x ∷ filter f xs) (filter f xs))) → (IsSome (find g (filter f xs)) → IsSome (find g xs)) → IsSome (cond d (Some x) (find g xs))
    by_test true is e h k = refl
    by_test false is true h k = k (subst (λ o. IsSome o) (cond-false (g x) (Some x) (find g (filter f xs)) is) h)
    by_test false is false h k = k h

only_some : (ss : List Standing) (s : Standing) → only ss ≡ Some s → IsSome (find (λ (t : Standing). same_auth t.auth s.auth) ss)
only_some [] s e = absurd cc
only_some (t ∷ []) s e =
    let one : t ≡ s = same_some t s e in
    let is : same_auth t.auth s.auth ≡ true = subst (λ (u : Standing). same_auth t.auth u.auth ≡ true) one (auth_self t.auth) in
    ap is_some (cond-true (same_auth t.auth s.auth) (Some t) None is)
only_some (t ∷ u ∷ more) s e = absurd cc

module _ (payer first : ℕ) (ps : List Payment) (auth : Auth) (next : auth ≡ record { payer = payer; serial = first + length ps }) (prices : Pricing) (k : ℕ) where
  priced_possible : (c : Claim) (o : Option Verdict) → HasFillNumber c → standing_of c.fill (standing_in ps) ≡ None → IsPossible payer first ps (change_by (Ok (Bills c)) (priced auth c o))
  priced_possible c None number none = tt
  priced_possible c (Some (Rejects codes)) number none = tt
  priced_possible c (Some (PaysOut m)) number none = (next, number, none)

  claim_possible : (c : Claim) (o : Option Standing) → HasFillNumber c → standing_of c.fill (standing_in ps) ≡ o → IsPossible payer first ps (change_by (Ok (Bills c)) (ruling_by auth prices k (claim_on c o)))
  claim_possible c None number e = priced_possible c (price_at prices k c) number e
  claim_possible c (Some s) number e = by_test (same_claim s.claim c)
    where
      by_test : (b : Bool) → IsPossible payer first ps (change_by (Ok (Bills c)) (ruling_by auth prices k (cond b (Unpriced (Duplicate s.auth c.fill.prescription s.amounts)) (Unpriced (Rejected (Code.DuplicateClaim ∷ []))))))
      by_test true = tt
      by_test false = tt

  reversal_possible : (v : Reversal) (o : Option Standing) → only (filter (is_for_payment v) (standing_in ps)) ≡ o → IsPossible payer first ps (change_by (Ok (Reverses v)) (ruling_by auth prices k (reversal_on v o)))
  reversal_possible v None e = tt
  reversal_possible v (Some s) e = by_consent (consent_at prices k v)
    where
      by_consent : (o : Option Consent) → IsPossible payer first ps (change_by (Ok (Reverses v)) (taken_back s.auth v o))
      by_consent None = tt
      by_consent (Some Allows) = some_in (λ (t : Standing). same_auth t.auth s.auth) (is_for_payment v) (standing_in ps) (only_some (filter (is_for_payment v) (standing_in ps)) s e)
      by_consent (Some (Denies codes)) = tt

  settled_possible : (order : Result Order (List Code)) → OrderNumbered order → IsPossible payer first ps (change_by order (ruling_by auth prices k (judged_on (standing_in ps) order)))
  settled_possible (Err codes) number = tt
  settled_possible (Ok (Bills c)) number = claim_possible c (standing_of c.fill (standing_in ps)) number refl
  settled_possible (Ok (Reverses v)) number = reversal_possible v (only (filter (is_for_payment v) (standing_in ps))) refl

length_with : (id : TxnId) (ps : List Payment) (change : Change) → length (payments_with id ps change) ≡ length ps + cond (pays change) 1 0
length_with id ps (Pays s) = length-append ps _
length_with id ps (ReversesPayment auth) = omega (arith, length-map ps (after_reversal auth id))
length_with id ps KeepsAll = omega arith

pub ruling_possible : (l : Ledger) (prices : Pricing) (ps : List Payment) (changes : List Change) (order : Result Order (List Code)) → OrderNumbered order → standing_in ps ≡ standing_after (standing_in l.payments) changes
    → length ps ≡ length l.payments + count_by pays changes → IsPossible l.payer l.first ps (change_by order (ruling_on l prices changes order))
unfolding ruling_on
ruling_possible l prices ps changes order number stands count =
    let e : l.first + length l.payments + count_by pays changes ≡ l.first + length ps = omega (arith, count) in
    let next : auth_after l changes ≡ record { payer = l.payer; serial = l.first + length ps } = λ i. record { payer = l.payer; serial = e i } in
    subst (λ (ss : List Standing). IsPossible l.payer l.first ps (change_by order (ruling_by (auth_after l changes) prices (length changes) (judged_on ss order)))) stands
    (settled_possible l.payer l.first ps (auth_after l changes) next prices (length changes) order number)

module _ (l : Ledger) (prices : Pricing) (id : TxnId) where
  pub all_possible : (ps : List Payment) (changes : List Change) (orders : List (Result Order (List Code))) → AllByRecursion OrderNumbered orders → standing_in ps ≡ standing_after (standing_in l.payments) changes
      → length ps ≡ length l.payments + count_by pays changes → ArePossible l.payer l.first id ps (changes_by orders (rulings_on l prices changes orders))
  all_possible ps changes [] numbers stands count = tt
  all_possible ps changes (order ∷ orders) numbers stands count =
      let change : Change = change_by order (ruling_on l prices changes order) in (
        ruling_possible l prices ps changes order numbers.0 stands count,
        all_possible (payments_with id ps change) (changes ++ change ∷ []) orders numbers.1
            (standing_more id ps change ∙ (ap (λ (ss : List Standing). standing_with ss change) stands ∙ sym (after_more (standing_in l.payments) changes change)))
            (omega (arith, count, length_with id ps change, sum_by-append (λ (d : Change). cond (pays d) 1 0) changes (change ∷ []))),
      )

-- the payments after the rulings of a request

pub payments_all : (id : TxnId) (place : ℕ) (before : List Ruled) (orders : List (Result Order (List Code))) (rulings : List Ruling) → payments_after id (payments_of before) (changes_by orders rulings) ≡ payments_of (before ++ ruled_from id place orders rulings)
payments_all id place before [] rulings = ap payments_of (sym (append-nil before))
payments_all id place before (order ∷ orders) [] = ap payments_of (sym (append-nil before))
payments_all id place before (order ∷ orders) (r ∷ rulings) =
    let x : Ruled = ruled id place order r in
    ap (λ (ps : List Payment). payments_after id ps (changes_by orders rulings)) (sym (payments_more before x))
    ∙ (payments_all id (place + 1) (before ++ x ∷ []) orders rulings ∙ ap payments_of (append_assoc before (x ∷ []) (ruled_from id (place + 1) orders rulings)))

counted_all : (l : Ledger) (prices : Pricing) (changes : List Change) (id : TxnId) (place : ℕ) (before : List Ruled) (orders : List (Result Order (List Code))) → count_paid before ≡ length (payments_of before)
    → count_paid (before ++ ruled_from id place orders (rulings_on l prices changes orders)) ≡ length (payments_of (before ++ ruled_from id place orders (rulings_on l prices changes orders)))
counted_all l prices changes id place before [] e = ap (λ (rs : List Ruled). count_paid rs) (append-nil before) ∙ (e ∙ ap (λ (rs : List Ruled). length (payments_of rs)) (sym (append-nil before)))
counted_all l prices changes id place before (order ∷ orders) e =
    let r : Ruling = ruling_on l prices changes order in
    let x : Ruled = ruled id place order r in
    let rest : List Ruled = ruled_from id (place + 1) orders (rulings_on l prices (changes ++ change_by order r ∷ []) orders) in
    let f = sum_by-append (λ (q : Ruled). cond (is_paid q.ruling) 1 0) before (x ∷ []) in
    let g : cond (is_paid r) 1 0 ≡ cond (pays (change_by order r)) 1 0 = ap {B = ℕ} (λ b. cond b 1 0) (ruling_pays l prices changes order) in
    let h : length (payments_of (before ++ x ∷ [])) ≡ length (payments_of before) + cond (pays (change_by order r)) 1 0 = ap (λ (ps : List Payment). length ps) (payments_more before x) ∙ length_with id (payments_of before) (change_by order r) in
    let m : count_paid (before ++ x ∷ []) ≡ length (payments_of (before ++ x ∷ [])) = omega (arith, e, f, g, h) in
    ap (λ (rs : List Ruled). count_paid rs) (sym (append_assoc before (x ∷ []) rest))
    ∙ (counted_all l prices (changes ++ change_by order r ∷ []) id (place + 1) (before ++ x ∷ []) orders m
    ∙ ap (λ (rs : List Ruled). length (payments_of rs)) (append_assoc before (x ∷ []) rest))

-- a book goes on with the rulings of a request
pub keeps_more : (l m : Ledger) (prices : Pricing) (id : TxnId) (before : List Ruled) (orders : List (Result Order (List Code))) (rulings : List Ruling) → Keeps before l → rulings ≡ rulings_on l prices [] orders
    → m.payments ≡ payments_after id l.payments (changes_by orders rulings) → Keeps (before ++ ruled_from id 1 orders rulings) m
keeps_more l m prices id before orders rulings k is after =
    let all : m.payments ≡ payments_of (before ++ ruled_from id 1 orders rulings) = after ∙ (ap (λ (ps : List Payment). payments_after id ps (changes_by orders rulings)) k.payments ∙ payments_all id 1 before orders rulings) in
    let count : count_paid before ≡ length (payments_of before) = k.counted ∙ ap (λ (ps : List Payment). length ps) k.payments in
    record {
      payments = all;
      counted = subst (λ (rs : List Ruling). count_paid (before ++ ruled_from id 1 orders rs) ≡ length (payments_of (before ++ ruled_from id 1 orders rs))) (sym is) (counted_all l prices [] id 1 before orders count) ∙ ap (λ (ps : List Payment). length ps) (sym all);
    }

-- the rulings can be written

claim_writable : (auth : Auth) (prices : Pricing) (k : ℕ) (c : Claim) (o : Option Standing) → IsPrescription c.fill.prescription → IsWritable (ruling_by auth prices k (claim_on c o))
claim_writable auth prices k c None n = by_price (price_at prices k c)
  where
    by_price : (o : Option Verdict) → IsWritable (priced auth c o)
    by_price None = tt
    by_price (Some (Rejects codes)) = tt
    by_price (Some (PaysOut m)) = n
claim_writable auth prices k c (Some s) n = by_test (same_claim s.claim c)
  where
    by_test : (b : Bool) → IsWritable (ruling_by auth prices k (cond b (Unpriced (Duplicate s.auth c.fill.prescription s.amounts)) (Unpriced (Rejected (Code.DuplicateClaim ∷ [])))))
    by_test true = n
    by_test false = tt

reversal_writable : (auth : Auth) (prices : Pricing) (k : ℕ) (v : Reversal) (o : Option Standing) → IsPrescription v.prescription → IsWritable (ruling_by auth prices k (reversal_on v o))
reversal_writable auth prices k v None n = tt
reversal_writable auth prices k v (Some s) n = by_consent (consent_at prices k v)
  where
    by_consent : (o : Option Consent) → IsWritable (taken_back s.auth v o)
    by_consent None = tt
    by_consent (Some Allows) = n
    by_consent (Some (Denies codes)) = tt

ruling_writable : (l : Ledger) (prices : Pricing) (changes : List Change) (h : RequestHeader) (order : Result Order (List Code)) → IsOrderOf h order → IsWritable (ruling_on l prices changes order)
unfolding ruling_on
ruling_writable l prices changes h (Err codes) of_it = tt
ruling_writable l prices changes h (Ok (Bills c)) of_it = claim_writable (auth_after l changes) prices (length changes) c (standing_of c.fill (standing_after (standing_in l.payments) changes)) of_it.prescription
ruling_writable l prices changes h (Ok (Reverses v)) of_it = reversal_writable (auth_after l changes) prices (length changes) v (only (filter (is_for_payment v) (standing_after (standing_in l.payments) changes))) of_it.prescription

pub rulings_writable : (l : Ledger) (prices : Pricing) (changes : List Change) (h : RequestHeader) (orders : List (Result Order (List Code))) → AllByRecursion (IsOrderOf h) orders → AreWritable Accepted (rulings_on l prices changes orders)
rulings_writable l prices changes h [] all = tt
rulings_writable l prices changes h (order ∷ orders) all =
    ((ruling_writable l prices changes h order all.0, tt), rulings_writable l prices (changes ++ change_by order (ruling_on l prices changes order) ∷ []) h orders all.1)

pub length_rulings : (l : Ledger) (prices : Pricing) (changes : List Change) (orders : List (Result Order (List Code))) → length (rulings_on l prices changes orders) ≡ length orders
length_rulings l prices changes [] = refl
length_rulings l prices changes (order ∷ orders) = ap suc (length_rulings l prices (changes ++ change_by order (ruling_on l prices changes order) ∷ []) orders)
