-- The rulings of a kept answer are those over the payments that the code keeps, at the prices that it says.
use Rattle.std.proofs.Common.{◌≡◌, ℕ, suc, ◌+◌, Bool, true, false, ◌&&◌, cond, List, [], ◌∷◌, ◌++◌, length, Option, Some, None, Result, slice_get, refl, sym, ap, ◌∙◌, subst, append_assoc, arith, length-append}
use Rattle.std.specs.Prelude.{count_by}
use Rattle.bin_routes.specs.Table.{routes_of}
use Rattle.claim_model.specs.Words.{TxnId, Auth, Amounts, Claim, Reversal, Order, Code, Plan, Ruling}
use Rattle.claim_model.specs.Numbered.{numbered}
use Rattle.claim_model.specs.Ruled.{Ruled, ruled}
use Rattle.claim_model.specs.Rows.{BookSettings, Book, ruled_rows}
use Rattle.claim_model.specs.Judgement.{is_paid, Judged, Unpriced, ToPrice, ToReverse, Verdict, Pays, Rejects, planned, verdict_in, next_auth, priced, Consent, Allows, Denies, consent_in, asks_reversals, taken_back}
use Rattle.claim_model.specs.Book.{unadvised}
use Rattle.claim_model.proofs.Tests.{nat_self}
use Rattle.plan_rules.specs.Pricing.{paid}
use Rattle.payer_book.specs.declared.book.payment.Standing.{Standing}
use Rattle.payer_book.specs.declared.ruling.changes.Change.{Change}
use Rattle.payer_book.specs.Ledger.{Ledger, standing_in}
use Rattle.payer_book.specs.Changes.{change_by, pays, standing_after}
use Rattle.payer_book.specs.Drafts.{judged_on, Pricing, ByPlan, Asking, asking_of, AsKept, Suits, amounts_in, kept_verdict, price_at, kept_consent, consent_at, auth_after, ruling_by, ruling_on, rulings_on}
use Rattle.payer_book.specs.Books.{reading, payments_of, count_paid, IsBook}
use Rattle.payer_book.specs.Added.{kept_ruling_of, kept_ruling, kept_rulings_from, kept_rulings}
use Rattle.payer_book.specs.Entries.{with_plan, rulings_by}
use Rattle.payer_book.proofs.Growth.{judged_same}
use Rattle.payer_book.proofs.RulingLemmas.{auth_same, next_stands, count_more, ruling_pays, rulings_same}

module _ (b : Book) (l : Ledger) (payer : l.payer ≡ b.payer) (said : List Ruling) where
  settled_kept : (before : List Ruled) (auth : Auth) (k : ℕ) (j : Judged) → next_auth b before ≡ auth → kept_ruling_of b before (slice_get said k) j ≡ ruling_by auth (AsKept (asking_of b.settings) said) k j
  settled_kept before auth k (Unpriced ruling) is = refl
  settled_kept before auth k (ToPrice c) is = ap (λ (a : Auth). priced a c (kept_verdict b.settings.asks c.fill.prescription (slice_get said k))) is
  settled_kept before auth k (ToReverse paid_under v) is = refl

  kept_ruling_same : (before : List Ruled) (changes : List Change) (order : Result Order (List Code)) → standing_in (payments_of before) ≡ standing_after (standing_in l.payments) changes
      → b.settings.serial + count_paid before ≡ l.first + length l.payments + count_by pays changes → kept_ruling b before (slice_get said (length changes)) order ≡ ruling_on l (AsKept (asking_of b.settings) said) changes order
  unfolding kept_ruling ruling_on
  kept_ruling_same before changes order stands count =
      ap (kept_ruling_of b before (slice_get said (length changes))) (judged_same before order ∙ ap (λ (ss : List Standing). judged_on ss order) stands)
      ∙ settled_kept before (auth_after l changes) (length changes) (judged_on (standing_after (standing_in l.payments) changes) order) (auth_same b l payer before changes count)

  pub kept_rulings_same : (id : TxnId) (place : ℕ) (before : List Ruled) (changes : List Change) (orders : List (Result Order (List Code))) → place ≡ suc (length changes)
      → standing_in (payments_of before) ≡ standing_after (standing_in l.payments) changes → b.settings.serial + count_paid before ≡ l.first + length l.payments + count_by pays changes
      → kept_rulings_from b before id place orders said ≡ rulings_on l (AsKept (asking_of b.settings) said) changes orders
  kept_rulings_same id place before changes [] at stands count = refl
  kept_rulings_same id place before changes (order ∷ orders) at stands count =
      let r : Ruling = kept_ruling b before (numbered said place) order in
      let s : Ruling = ruling_on l (AsKept (asking_of b.settings) said) changes order in
      let same : r ≡ s = ap (λ (n : ℕ). kept_ruling b before (numbered said n) order) at ∙ kept_ruling_same before changes order stands count in
      let x : Ruled = ruled id place order r in
      let pay : is_paid r ≡ pays (change_by order r) = subst (λ (y : Ruling). is_paid y ≡ pays (change_by order y)) (sym same) (ruling_pays l (AsKept (asking_of b.settings) said) changes order) in
      let more = count_more before x changes (change_by order r) pay in
      let next : place + 1 ≡ suc (length (changes ++ change_by order r ∷ [])) = omega (arith, at, length-append changes (change_by order r ∷ [])) in
      let rest : kept_rulings_from b (before ++ x ∷ []) id (place + 1) orders said ≡ rulings_on l (AsKept (asking_of b.settings) said) (changes ++ change_by order r ∷ []) orders =
      kept_rulings_same id (place + 1) (before ++ x ∷ []) (changes ++ change_by order r ∷ []) orders next (next_stands l id place before changes order r stands) (omega (arith, count, more)) in
      ap (λ (rs : List Ruling). r ∷ rs) rest ∙ ap (λ (y : Ruling). y ∷ rulings_on l (AsKept (asking_of b.settings) said) (changes ++ change_by order y ∷ []) orders) same

-- what is ruled at some prices is ruled again where it says itself what it pays

-- a verdict that prices of a payer that does not ask may give: amounts, or a rejection with 70
abbrev IsPlain : Bool → Option Verdict → Type 0
IsPlain true v = Unit {0}
IsPlain false v = (o : Option Amounts) × (v ≡ Some (planned o))

plain_at : (prices : Pricing) (s : BookSettings) (k : ℕ) (c : Claim) → Suits prices s → (t : Bool) → s.asks ≡ t → IsPlain t (price_at prices k c)
plain_at prices s k c suits true is = tt
plain_at (ByPlan plan) s k c suits false is = (paid plan c, refl)
plain_at (AsKept own said) s k c suits false is =
    (amounts_in (slice_get said k), ap (λ (t : Bool). kept_verdict t c.fill.prescription (slice_get said k)) (ap (λ (x : Asking). x.asks) suits ∙ is))

-- a consent that a payer may give that does not ask about reversals: it is given
abbrev IsGiven : Bool → Option Consent → Type 0
IsGiven true o = Unit {0}
IsGiven false o = o ≡ Some Allows

given_at : (prices : Pricing) (s : BookSettings) (k : ℕ) (v : Reversal) → Suits prices s → (t : Bool) → asks_reversals s ≡ t → IsGiven t (consent_at prices k v)
given_at prices s k v suits true is = tt
given_at (ByPlan plan) s k v suits false is = refl
given_at (AsKept own said) s k v suits false is =
    ap (λ (t : Bool). cond t (consent_in v.prescription (slice_get said k)) (Some Allows)) (ap (λ (x : Asking). x.asks && x.reversals) suits ∙ is)

same_taken : (auth : Auth) (v : Reversal) (t : Bool) (o : Option Consent) → IsGiven t o → taken_back auth v (cond t (consent_in v.prescription (Some (taken_back auth v o))) (Some Allows)) ≡ taken_back auth v o
same_taken auth v true None given = refl
same_taken auth v true (Some Allows) given = ap (λ (t : Bool). taken_back auth v (cond t (Some Allows) None)) (nat_self v.prescription)
same_taken auth v true (Some (Denies codes)) given = refl
same_taken auth v false o given = ap (taken_back auth v) (sym given)

planned_again : (auth : Auth) (c : Claim) (o : Option Amounts) → priced auth c (kept_verdict false c.fill.prescription (Some (priced auth c (Some (planned o))))) ≡ priced auth c (Some (planned o))
planned_again auth c None = refl
planned_again auth c (Some m) = refl

same_priced : (auth : Auth) (c : Claim) (asks : Bool) (o : Option Verdict) → IsPlain asks o → priced auth c (kept_verdict asks c.fill.prescription (Some (priced auth c o))) ≡ priced auth c o
same_priced auth c true None plain = refl
same_priced auth c true (Some (Rejects codes)) plain = refl
same_priced auth c true (Some (Pays m)) plain = ap (λ (t : Bool). priced auth c (cond t (Some (Pays m)) None)) (nat_self c.fill.prescription)
same_priced auth c false o plain = subst (λ (v : Option Verdict). priced auth c (kept_verdict false c.fill.prescription (Some (priced auth c v))) ≡ priced auth c v) (sym plain.1) (planned_again auth c plain.0)

settled_again : (auth : Auth) (prices : Pricing) (s : BookSettings) (k : ℕ) (said : List Ruling) (j : Judged) → Suits prices s → slice_get said k ≡ Some (ruling_by auth prices k j) → ruling_by auth (AsKept (asking_of s) said) k j ≡ ruling_by auth prices k j
settled_again auth prices s k said (Unpriced ruling) suits at = refl
settled_again auth prices s k said (ToPrice c) suits at =
    ap (λ (o : Option Ruling). priced auth c (kept_verdict s.asks c.fill.prescription o)) at ∙ same_priced auth c s.asks (price_at prices k c) (plain_at prices s k c suits s.asks refl)
settled_again auth prices s k said (ToReverse paid_under v) suits at =
    ap (λ (o : Option Ruling). taken_back paid_under v (kept_consent (asking_of s) v.prescription o)) at ∙ same_taken paid_under v (asks_reversals s) (consent_at prices k v) (given_at prices s k v suits (asks_reversals s) refl)

ruling_again : (l : Ledger) (prices : Pricing) (s : BookSettings) (said : List Ruling) (changes : List Change) (order : Result Order (List Code)) → Suits prices s → slice_get said (length changes) ≡ Some (ruling_on l prices changes order)
    → ruling_on l (AsKept (asking_of s) said) changes order ≡ ruling_on l prices changes order
unfolding ruling_on
ruling_again l prices s said changes order suits at = settled_again (auth_after l changes) prices s (length changes) said (judged_on (standing_after (standing_in l.payments) changes) order) suits at

pub get_front : {A : Type 0} (front : List A) (x : A) (rest : List A) → slice_get (front ++ x ∷ rest) (length front) ≡ Some x
get_front [] x rest = refl
get_front (y ∷ front) x rest = get_front front x rest

rulings_again_from : (l : Ledger) (prices : Pricing) (s : BookSettings) (said front : List Ruling) (changes : List Change) (orders : List (Result Order (List Code))) → Suits prices s → said ≡ front ++ rulings_on l prices changes orders → length front ≡ length changes
    → rulings_on l (AsKept (asking_of s) said) changes orders ≡ rulings_on l prices changes orders
rulings_again_from l prices s said front changes [] suits e n = refl
rulings_again_from l prices s said front changes (order ∷ orders) suits e n =
    let r : Ruling = ruling_on l prices changes order in
    let later : List Ruling = rulings_on l prices (changes ++ change_by order r ∷ []) orders in
    let at : slice_get said (length changes) ≡ Some r = ap (λ (rs : List Ruling). slice_get rs (length changes)) e ∙ (ap (λ (k : ℕ). slice_get (front ++ r ∷ later) k) (sym n) ∙ get_front front r later) in
    let more : length (front ++ r ∷ []) ≡ length (changes ++ change_by order r ∷ []) = omega (arith, n, length-append front (r ∷ []), length-append changes (change_by order r ∷ [])) in
    ap (λ (y : Ruling). y ∷ rulings_on l (AsKept (asking_of s) said) (changes ++ change_by order y ∷ []) orders) (ruling_again l prices s said changes order suits at)
    ∙ ap (λ (rs : List Ruling). r ∷ rs) (rulings_again_from l prices s said (front ++ r ∷ []) (changes ++ change_by order r ∷ []) orders suits (e ∙ sym (append_assoc front (r ∷ []) later)) more)

pub rulings_again : (l : Ledger) (prices : Pricing) (s : BookSettings) (orders : List (Result Order (List Code))) (said : List Ruling) → Suits prices s → said ≡ rulings_on l prices [] orders → rulings_on l (AsKept (asking_of s) said) [] orders ≡ said
rulings_again l prices s orders said suits e = rulings_again_from l prices s said [] [] orders suits e refl ∙ sym e

module _ (b : Book) (l : Ledger) (h : IsBook b.payer b.settings.serial b.rows l) (id : TxnId) (request : List ℕ) where
  stands : standing_in (payments_of (ruled_rows reading b.rows)) ≡ standing_in l.payments
  stands = ap standing_in (sym h.kept.payments)

  counted : b.settings.serial + count_paid (ruled_rows reading b.rows) ≡ l.first + length l.payments + 0
  counted = omega (arith, h.from_serial, h.kept.counted)

  by_kept : (said : List Ruling) → kept_rulings b id request said ≡ rulings_on l (AsKept (asking_of b.settings) said) [] (reading.orders request)
  by_kept said = kept_rulings_same b l h.of_payer said id 1 (ruled_rows reading b.rows) [] (reading.orders request) refl stands counted

  -- the rulings of a request in a book are those over its payments, wherever the verdicts come from
  pub rulings_by_on : (prices : Pricing) → Suits prices b.settings → rulings_by prices b id request ≡ rulings_on l prices [] (reading.orders request)
  rulings_by_on (ByPlan plan) suits =
      rulings_same (routes_of []) (with_plan b plan) l h.of_payer unadvised (ByPlan plan) (λ k c. plan_verdict plan k c b.settings.asks suits) (λ k v. plan_consent k v b.settings.asks suits) id 1 (ruled_rows reading b.rows) [] (reading.orders request) refl stands counted
    where
      plan_verdict : (plan : Plan) (k : ℕ) (c : Claim) (t : Bool) → t ≡ false → cond t (verdict_in c.fill.prescription (slice_get unadvised.rulings k)) (Some (planned (paid plan c))) ≡ Some (planned (paid plan c))
      plan_verdict plan k c true e = absurd (Rattle.std.proofs.lemmas.Bool.true≢false e)
      plan_verdict plan k c false e = refl

      plan_consent : (k : ℕ) (v : Reversal) (t : Bool) → t ≡ false → cond (t && b.settings.reversals) (consent_in v.prescription (slice_get unadvised.rulings k)) (Some Allows) ≡ Some Allows
      plan_consent k v true e = absurd (Rattle.std.proofs.lemmas.Bool.true≢false e)
      plan_consent k v false e = refl
  rulings_by_on (AsKept own said) suits = by_kept said ∙ ap (λ (a : Asking). rulings_on l (AsKept a said) [] (reading.orders request)) (sym suits)

  -- and follow the rules again where they say themselves what they pay
  pub kept_again : (prices : Pricing) (rulings : List Ruling) → Suits prices b.settings → rulings ≡ rulings_on l prices [] (reading.orders request) → rulings ≡ kept_rulings b id request rulings
  kept_again prices rulings suits e = sym (by_kept rulings ∙ rulings_again l prices b.settings (reading.orders request) rulings suits e)
