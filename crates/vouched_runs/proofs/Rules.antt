-- Rulings that the rules give for some plan or advice: a book of such rows keeps its ledger.
use Rattle.std.proofs.Common.{◌≡◌, ℕ, zero, suc, ◌+◌, ◌==◌, true, false, List, [], ◌∷◌, ◌++◌, length, replicate, slice_get, Option, Some, None, Result, refl, sym, ap, ◌∙◌, subst, append_assoc, arith}
use Rattle.std.proofs.lemmas.List.{append-nil}
use Rattle.std.proofs.lemmas.Bool.{cond-true}
use Rattle.claim_model.specs.Words.{Advice, TxnId, Auth, Claim, Reversal, Order, Code, NotCovered, ReversalNotProcessed, Ruling}
use Rattle.claim_model.specs.Context.{Context}
use Rattle.claim_model.specs.Numbered.{numbered}
use Rattle.claim_model.specs.Ruled.{Ruled, ruled, ruled_from}
use Rattle.claim_model.specs.Rows.{Row, Book, ruled_rows}
use Rattle.claim_model.specs.Judgement.{Judged, Unpriced, ToPrice, ToReverse, judged, Verdict, Pays, Rejects, verdict_in, verdict_of, next_auth, priced, Consent, Allows, Denies, consent_in, consent_of, taken_back, ruling_of, ruling, rulings_from}
use Rattle.claim_model.proofs.Tests.{nat_self}
use Rattle.claim_model.proofs.Ledger.{Ledger, empty_ledger, ledger_more, ruled_rows_more}
use Rattle.claim_model.proofs.Books.{BookLedger}
use Rattle.vouched_runs.specs.Agreeing.{RulesGive, RulesGiveAll, AreNextRows}

-- ---- such a ruling is the one that a payer gives which is advised to give it

abbrev asking : Book → Book
asking b = record { payer = b.payer; settings = record { serial = b.settings.serial; cap = b.settings.cap; asks = true; reversals = true; carries = false }; plan = b.plan; rows = [] }

-- an advice that says this ruling at each of the places up to one
abbrev saying : ℕ → Ruling → Advice
saying k r = record { rulings = replicate (suc k) r; text = [] }

get_replicated : (k : ℕ) (r : Ruling) → slice_get (replicate (suc k) r) k ≡ Some r
get_replicated zero r = refl
get_replicated (suc k) r = get_replicated k r

numbered_replicated : (k place : ℕ) (r : Ruling) → place ≡ suc k → numbered (replicate (suc k) r) place ≡ Some r
numbered_replicated k place r e = subst (λ (n : ℕ). numbered (replicate (suc k) r) n ≡ Some r) (sym e) (get_replicated k r)

says_again : (auth : Auth) (c : Claim) (v : Verdict) → verdict_in c.fill.prescription (Some (priced auth c (Some v))) ≡ Some v
says_again auth c (Pays m) = cond-true (c.fill.prescription == c.fill.prescription) (Some (Pays m)) None (nat_self c.fill.prescription)
says_again auth c (Rejects codes) = refl

allows_again : (auth : Auth) (v : Reversal) (k : Consent) → consent_in v.prescription (Some (taken_back auth v (Some k))) ≡ Some k
allows_again auth v Allows = cond-true (v.prescription == v.prescription) (Some Allows) None (nat_self v.prescription)
allows_again auth v (Denies codes) = refl

given_again : (ctx : Context) (b : Book) (before : List Ruled) (k place : ℕ) (j : Judged) (r : Ruling) → place ≡ suc k → RulesGive b before j r → ruling_of ctx (asking b) (saying k r) before place j ≡ r
given_again ctx b before k place (Unpriced settled) r e g = sym g
given_again ctx b before k place (ToPrice c) r e g =
    ap (λ (o : Option Ruling). priced (next_auth b before) c (verdict_in c.fill.prescription o)) (numbered_replicated k place r e)
    ∙ (ap (λ (x : Ruling). priced (next_auth b before) c (verdict_in c.fill.prescription (Some x))) g.1
    ∙ (ap (priced (next_auth b before) c) (says_again (next_auth b before) c g.0) ∙ sym g.1))
given_again ctx b before k place (ToReverse auth v) r e g =
    ap (λ (o : Option Ruling). taken_back auth v (consent_in v.prescription o)) (numbered_replicated k place r e)
    ∙ (ap (λ (x : Ruling). taken_back auth v (consent_in v.prescription (Some x))) g.1
    ∙ (ap (taken_back auth v) (allows_again auth v g.0) ∙ sym g.1))

-- ---- so the ledger goes on

ledger_given : (ctx : Context) (b : Book) (before : List Ruled) (id : TxnId) (k place : ℕ) (order : Result Order (List Code)) (r : Ruling) → place ≡ suc k → RulesGive b before (judged before order) r
    → Ledger b.payer b.settings.serial before → Ledger b.payer b.settings.serial (before ++ ruled id place order r ∷ [])
unfolding ruling
ledger_given ctx b before id k place order r e g l =
    subst (λ (x : Ruling). Ledger b.payer b.settings.serial (before ++ ruled id place order x ∷ [])) (given_again ctx b before k place (judged before order) r e g)
    (ledger_more ctx (asking b) (saying k r) before id place order l)

ledger_groups : (ctx : Context) (b : Book) (before : List Ruled) (id : TxnId) (k place : ℕ) (orders : List (Result Order (List Code))) (rulings : List Ruling) → place ≡ suc k → RulesGiveAll b before id place orders rulings
    → Ledger b.payer b.settings.serial before → Ledger b.payer b.settings.serial (before ++ ruled_from id place orders rulings)
ledger_groups ctx b before id k place [] [] e g l = subst (Ledger b.payer b.settings.serial) (sym (append-nil before)) l
ledger_groups ctx b before id k place [] (r ∷ rulings) e g l = absurd g
ledger_groups ctx b before id k place (order ∷ orders) [] e g l = absurd g
ledger_groups ctx b before id k place (order ∷ orders) (r ∷ rulings) e g l =
    let x : Ruled = ruled id place order r in
    let next : place + 1 ≡ suc place = omega arith in
    subst (Ledger b.payer b.settings.serial) (append_assoc before (x ∷ []) (ruled_from id (place + 1) orders rulings))
    (ledger_groups ctx b (before ++ x ∷ []) id place (place + 1) orders rulings next g.1 (ledger_given ctx b before id k place order r e g.0 l))

ledger_rows : (ctx : Context) (b : Book) (before rows : List Row) → AreNextRows ctx b before rows → Ledger b.payer b.settings.serial (ruled_rows ctx before) → Ledger b.payer b.settings.serial (ruled_rows ctx (before ++ rows))
ledger_rows ctx b before [] o l = subst (λ (rs : List Row). Ledger b.payer b.settings.serial (ruled_rows ctx rs)) (sym (append-nil before)) l
ledger_rows ctx b before (row ∷ rows) o l =
    let one = ledger_groups ctx b (ruled_rows ctx before) row.id 0 1 (ctx.orders row.request) row.rulings refl o.0.given l in
    subst (λ (rs : List Row). Ledger b.payer b.settings.serial (ruled_rows ctx rs)) (append_assoc before (row ∷ []) rows)
    (ledger_rows ctx b (before ++ row ∷ []) rows o.1 (subst (Ledger b.payer b.settings.serial) (sym (ruled_rows_more ctx before row)) one))

pub next_rows_ledger : (ctx : Context) (b : Book) → AreNextRows ctx b [] b.rows → BookLedger ctx b
next_rows_ledger ctx b o = ledger_rows ctx b [] b.rows o (empty_ledger b.payer b.settings.serial)

-- ---- there is one for each order

pub given_length : (b : Book) (before : List Ruled) (id : TxnId) (place : ℕ) (orders : List (Result Order (List Code))) (rulings : List Ruling) → RulesGiveAll b before id place orders rulings → length rulings ≡ length orders
given_length b before id place [] [] g = refl
given_length b before id place [] (r ∷ rulings) g = absurd g
given_length b before id place (order ∷ orders) [] g = absurd g
given_length b before id place (order ∷ orders) (r ∷ rulings) g = ap suc (given_length b (before ++ ruled id place order r ∷ []) id (place + 1) orders rulings g.1)

-- ---- what a payer rules is such a ruling

some_verdict : (auth : Auth) (c : Claim) (o : Option Verdict) → (v : Verdict) × (priced auth c o ≡ priced auth c (Some v))
some_verdict auth c None = (Rejects (NotCovered ∷ []), refl)
some_verdict auth c (Some v) = (v, refl)

some_consent : (auth : Auth) (v : Reversal) (o : Option Consent) → (k : Consent) × (taken_back auth v o ≡ taken_back auth v (Some k))
some_consent auth v None = (Denies (ReversalNotProcessed ∷ []), refl)
some_consent auth v (Some k) = (k, refl)

ruling_given : (ctx : Context) (b : Book) (advice : Advice) (before : List Ruled) (place : ℕ) (j : Judged) → RulesGive b before j (ruling_of ctx b advice before place j)
ruling_given ctx b advice before place (Unpriced settled) = refl
ruling_given ctx b advice before place (ToPrice c) = some_verdict (next_auth b before) c (verdict_of ctx b advice place c)
ruling_given ctx b advice before place (ToReverse auth v) = some_consent auth v (consent_of b advice place v)

pub rulings_given : (ctx : Context) (b : Book) (advice : Advice) (before : List Ruled) (id : TxnId) (place : ℕ) (orders : List (Result Order (List Code)))
    → RulesGiveAll b before id place orders (rulings_from ctx b advice before id place orders)
unfolding ruling
rulings_given ctx b advice before id place [] = tt
rulings_given ctx b advice before id place (order ∷ orders) = (
  ruling_given ctx b advice before place (judged before order),
  rulings_given ctx b advice (before ++ ruled id place order (ruling ctx b advice before place order) ∷ []) id (place + 1) orders,
)
