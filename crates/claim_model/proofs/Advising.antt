-- A payer that asks rules as its advice says, and one that does not asks nobody.
use Rattle.std.proofs.Common.{◌≡◌, ℕ, ◌+◌, Bool, true, false, cond, ◌&&◌, List, [], ◌∷◌, ◌++◌, Option, Some, None, Result, Ok, Err, refl, sym, ap, ◌∙◌}
use Rattle.std.specs.Prelude.{is_some}
use Rattle.std.proofs.lemmas.Bool.{and_parts, cond-true}
use Rattle.claim_model.specs.Words.{Advice, TxnId, RequestHeader, Order, Code, Ruling}
use Rattle.claim_model.specs.Context.{Context}
use Rattle.claim_model.specs.Readable.{readable}
use Rattle.claim_model.specs.Numbered.{numbered}
use Rattle.claim_model.specs.Ruled.{Ruled, ruled}
use Rattle.claim_model.specs.Rows.{Row, Book, ruled_rows}
use Rattle.claim_model.specs.Judgement.{Judged, Unpriced, ToPrice, ToReverse, judged, Verdict, verdict_in, planned, verdict_of, next_auth, priced, Consent, Allows, consent_in, consent_of, taken_back, ruling_of, ruling, rulings_from, is_advised, all_advised}
use Rattle.claim_model.specs.Book.{row_of, to_carry, row_with, new_row, has_verdicts, unadvised, Answered, entered_row, answered_by, answered_readable, answered}
use Rattle.claim_model.specs.Advised.{AsAdvised, AllAsAdvised, EntersAdvised}
use Rattle.claim_model.proofs.PayerStep.{Rows, Known, New, answered_ruled}
use Rattle.claim_model.proofs.Deliverable.{unasked_advised}

judged_so : (ctx : Context) (b : Book) (advice : Advice) (before : List Ruled) (place : ℕ) (j : Judged) → b.settings.asks ≡ true → is_advised ctx b advice place j ≡ true → AsAdvised b advice before place j (ruling_of ctx b advice before place j)
judged_so ctx b advice before place (Unpriced settled) asks has = refl
judged_so ctx b advice before place (ToPrice c) asks has = by_verdict (verdict_in c.fill.prescription (numbered advice.rulings place)) refl (sym (ap is_some same) ∙ has)
  where
    same : verdict_of ctx b advice place c ≡ verdict_in c.fill.prescription (numbered advice.rulings place)
    same = cond-true b.settings.asks (verdict_in c.fill.prescription (numbered advice.rulings place)) (Some (planned (ctx.price b.plan c))) asks

    by_verdict : (o : Option Verdict) → verdict_in c.fill.prescription (numbered advice.rulings place) ≡ o → is_some (verdict_in c.fill.prescription (numbered advice.rulings place)) ≡ true
        → (v : Verdict) × (verdict_in c.fill.prescription (numbered advice.rulings place) ≡ Some v) × (priced (next_auth b before) c (verdict_of ctx b advice place c) ≡ priced (next_auth b before) c (Some v))
    by_verdict None is some = absurd (Rattle.std.proofs.lemmas.Bool.false≢true (sym (ap is_some is) ∙ some))
    by_verdict (Some v) is some = (v, is, ap (priced (next_auth b before) c) (same ∙ is))
judged_so ctx b advice before place (ToReverse auth v) asks has = by_consent (consent_of b advice place v) refl has
  where
    by_consent : (o : Option Consent) → consent_of b advice place v ≡ o → is_some (consent_of b advice place v) ≡ true
        → (k : Consent) × (consent_of b advice place v ≡ Some k) × (taken_back auth v (consent_of b advice place v) ≡ taken_back auth v (Some k))
    by_consent None is some = absurd (Rattle.std.proofs.lemmas.Bool.false≢true (sym (ap is_some is) ∙ some))
    by_consent (Some k) is some = (k, is, ap (taken_back auth v) is)

ruled_so : (ctx : Context) (b : Book) (advice : Advice) (before : List Ruled) (place : ℕ) (order : Result Order (List Code)) → b.settings.asks ≡ true → is_advised ctx b advice place (judged before order) ≡ true
    → AsAdvised b advice before place (judged before order) (ruling ctx b advice before place order)
unfolding ruling
ruled_so ctx b advice before place order asks has = judged_so ctx b advice before place (judged before order) asks has

all_so : (ctx : Context) (b : Book) (advice : Advice) (before : List Ruled) (id : TxnId) (place : ℕ) (orders : List (Result Order (List Code))) → b.settings.asks ≡ true → all_advised ctx b advice before id place orders ≡ true
    → AllAsAdvised b advice before id place orders (rulings_from ctx b advice before id place orders)
all_so ctx b advice before id place [] asks all = tt
all_so ctx b advice before id place (order ∷ orders) asks all =
    let more : List Ruled = before ++ ruled id place order (ruling ctx b advice before place order) ∷ [] in
    let p = and_parts (is_advised ctx b advice place (judged before order)) (all_advised ctx b advice more id (place + 1) orders) all in
    (ruled_so ctx b advice before place order asks p.0, all_so ctx b advice more id (place + 1) orders asks p.1)

by_rows : (ctx : Context) (b : Book) (advice : Advice) (id : TxnId) (request : List ℕ) (h : RequestHeader) (a : Answered) → b.settings.asks ≡ true → row_of id b.rows ≡ None → Rows ctx b advice id request h a → EntersAdvised ctx b advice id request a
by_rows ctx b advice id request h a asks fresh (Known row found same book text) = absurd (none_some (sym fresh ∙ found))
  where
    none_some : ◌≡◌ {A = Option Row} None (Some row) → ⊥
    none_some e = cc
by_rows ctx b advice id request h a asks fresh (New none fits advised book text) =
    record {
      rulings = (new_row ctx b advice id request).rulings;
      advised = all_so ctx b advice (ruled_rows ctx b.rows) id 1 (ctx.orders request) asks advised;
      rows = ap (λ (q : Book). q.rows) book;
    }

pub enters_advised : (ctx : Context) (b : Book) (advice : Advice) (id : TxnId) (request : List ℕ) (a : Answered) → b.settings.asks ≡ true → row_of id b.rows ≡ None → answered ctx b advice id request ≡ Ok a → EntersAdvised ctx b advice id request a
enters_advised ctx b advice id request a asks fresh e = let r = answered_ruled ctx b advice id request a e in by_rows ctx b advice id request r.header a asks fresh r.rows

-- a book that does not ask

settled_alike : (ctx : Context) (b : Book) (advice : Advice) (before : List Ruled) (place : ℕ) (j : Judged) → b.settings.asks ≡ false → ruling_of ctx b advice before place j ≡ ruling_of ctx b unadvised before place j
settled_alike ctx b advice before place (Unpriced settled) e = refl
settled_alike ctx b advice before place (ToPrice c) e = ap (priced (next_auth b before) c) (by_asks b.settings.asks e)
  where
    by_asks : (t : Bool) → t ≡ false → cond t (verdict_in c.fill.prescription (numbered advice.rulings place)) (Some (planned (ctx.price b.plan c))) ≡ cond t (verdict_in c.fill.prescription (numbered unadvised.rulings place)) (Some (planned (ctx.price b.plan c)))
    by_asks true h = absurd (Rattle.std.proofs.lemmas.Bool.true≢false h)
    by_asks false h = refl
settled_alike ctx b advice before place (ToReverse auth v) e = ap (taken_back auth v) (by_asks b.settings.asks e)
  where
    by_asks : (t : Bool) → t ≡ false → cond (t && b.settings.reversals) (consent_in v.prescription (numbered advice.rulings place)) (Some Allows) ≡ cond (t && b.settings.reversals) (consent_in v.prescription (numbered unadvised.rulings place)) (Some Allows)
    by_asks true h = absurd (Rattle.std.proofs.lemmas.Bool.true≢false h)
    by_asks false h = refl

one_alike : (ctx : Context) (b : Book) (advice : Advice) (before : List Ruled) (place : ℕ) (order : Result Order (List Code)) → b.settings.asks ≡ false → ruling ctx b advice before place order ≡ ruling ctx b unadvised before place order
unfolding ruling
one_alike ctx b advice before place order e = settled_alike ctx b advice before place (judged before order) e

rulings_alike : (ctx : Context) (b : Book) (advice : Advice) (before : List Ruled) (id : TxnId) (place : ℕ) (orders : List (Result Order (List Code))) → b.settings.asks ≡ false
    → rulings_from ctx b advice before id place orders ≡ rulings_from ctx b unadvised before id place orders
rulings_alike ctx b advice before id place [] e = refl
rulings_alike ctx b advice before id place (order ∷ orders) e =
    let r : Ruling = ruling ctx b advice before place order in
    ap (λ (rs : List Ruling). r ∷ rs) (rulings_alike ctx b advice (before ++ ruled id place order r ∷ []) id (place + 1) orders e)
    ∙ ap (λ (x : Ruling). x ∷ rulings_from ctx b unadvised (before ++ ruled id place order x ∷ []) id (place + 1) orders) (one_alike ctx b advice before place order e)

row_alike : (ctx : Context) (b : Book) (advice : Advice) (id : TxnId) (request : List ℕ) → b.settings.asks ≡ false → new_row ctx b advice id request ≡ new_row ctx b unadvised id request
row_alike ctx b advice id request e =
    ap (row_with ctx b advice id request) (rulings_alike ctx b advice (ruled_rows ctx b.rows) id 1 (ctx.orders request) e)
    ∙ by_asks b.settings.asks (rulings_from ctx b unadvised (ruled_rows ctx b.rows) id 1 (ctx.orders request)) e
  where
    by_asks : (t : Bool) (rulings : List Ruling) → t ≡ false
        → ◌≡◌ {A = Row} (record { id = id; request = request; rulings = rulings; carried = cond (t && b.settings.carries) (ctx.carried request rulings (to_carry ctx b advice request rulings)) [] })
        (record { id = id; request = request; rulings = rulings; carried = cond (t && b.settings.carries) (ctx.carried request rulings (to_carry ctx b unadvised request rulings)) [] })
    by_asks true rulings h = absurd (Rattle.std.proofs.lemmas.Bool.true≢false h)
    by_asks false rulings h = refl

verdicts_alike : (ctx : Context) (b : Book) (advice : Advice) (id : TxnId) (request : List ℕ) → b.settings.asks ≡ false → has_verdicts ctx b advice id request ≡ has_verdicts ctx b unadvised id request
verdicts_alike ctx b advice id request e =
    unasked_advised ctx b advice (ruled_rows ctx b.rows) id 1 (ctx.orders request) e ∙ sym (unasked_advised ctx b unadvised (ruled_rows ctx b.rows) id 1 (ctx.orders request) e)

by_row : (ctx : Context) (b : Book) (advice : Advice) (id : TxnId) (request : List ℕ) (h : RequestHeader) (o : Option Row) → b.settings.asks ≡ false → answered_by ctx b advice id request h o ≡ answered_by ctx b unadvised id request h o
by_row ctx b advice id request h (Some row) e = refl
by_row ctx b advice id request h None e =
    ap (λ (row : Row). cond (Rattle.std.proofs.Common.nat_lt (Rattle.std.proofs.Common.length b.rows) b.settings.cap) (entered_row ctx b h (has_verdicts ctx b advice id request) row) (Err Rattle.claim_model.specs.Refusal.BookFull)) (row_alike ctx b advice id request e)
    ∙ ap (λ (t : Bool). cond (Rattle.std.proofs.Common.nat_lt (Rattle.std.proofs.Common.length b.rows) b.settings.cap) (entered_row ctx b h t (new_row ctx b unadvised id request)) (Err Rattle.claim_model.specs.Refusal.BookFull)) (verdicts_alike ctx b advice id request e)

by_header : (ctx : Context) (b : Book) (advice : Advice) (id : TxnId) (request : List ℕ) (o : Option RequestHeader) → b.settings.asks ≡ false → answered_readable ctx b advice id request o ≡ answered_readable ctx b unadvised id request o
by_header ctx b advice id request None e = refl
by_header ctx b advice id request (Some h) e =
    ap (λ r. cond (Rattle.claim_model.specs.Readable.is_payer b.payer (Rattle.claim_model.specs.Readable.payer_for ctx id h)) r (Err Rattle.claim_model.specs.Refusal.NotOurs)) (by_row ctx b advice id request h (row_of id b.rows) e)

pub asks_nobody : (ctx : Context) (b : Book) (advice : Advice) (id : TxnId) (request : List ℕ) → b.settings.asks ≡ false → answered ctx b advice id request ≡ answered ctx b unadvised id request
unfolding answered
asks_nobody ctx b advice id request e = by_header ctx b advice id request (readable ctx request) e
