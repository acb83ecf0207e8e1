-- What is added to a book are the rows that follow the rules.
use Rattle.std.proofs.Common.{◌≡◌, ℕ, suc, ◌+◌, ◌<◌, ◌≤◌, Bool, true, false, ◌&&◌, ◌==◌, cond, List, [], ◌∷◌, ◌++◌, map, length, Option, Some, None, Result, slice_get, inl, inr, refl, sym, ap, ◌∙◌, subst, append_assoc, arith, ltb-true, length-append}
use Rattle.std.specs.Prelude.{bytes_eq, nat_lt, is_none}
use Rattle.std.specs.List.{AllByRecursion, list_all}
use Rattle.std.proofs.lemmas.Bool.{and_parts}
use Rattle.std.proofs.lemmas.List.{append-nil, map-append}
use Rattle.std.proofs.lemmas.Option.{same_Some as same_some}
use Rattle.bin_routes.specs.Table.{RouteMaps, routes_of}
use Rattle.claim_profile.specs.Readable.{readable_header}
use Rattle.carried_fields.specs.Carrying.{carrying_text}
use Rattle.claim_model.specs.Words.{TxnId, Auth, RequestHeader, AcceptedStatus, Amounts, Claim, Reversal, Order, Code, Plan, Ruling, Paid, Duplicate, Reversed, Rejected, Answer}
use Rattle.claim_model.specs.Laws.{Laws, IsAmounts, IsRejects, IsVerdict, IsConsent, AdvisesWell, IsClaimOf, IsOrderOf, IsRuling}
use Rattle.claim_model.specs.Bytes.{bytes_with}
use Rattle.claim_model.specs.Readable.{readable}
use Rattle.claim_model.specs.Numbered.{numbered}
use Rattle.claim_model.specs.Ruled.{Ruled, ruled}
use Rattle.claim_model.specs.Rows.{Row, Book, BookSettings, ruled_rows}
use Rattle.claim_model.specs.Judgement.{Judged, Unpriced, ToPrice, ToReverse, judged, next_auth, Verdict, Pays, Rejects, planned, verdict_in, priced, Consent, Allows, Denies, consent_in, asks_reversals, taken_back}
use Rattle.claim_model.specs.Book.{row_of, serial_fits}
use Rattle.claim_model.proofs.BytesLaws.{readable_alike}
use Rattle.claim_model.proofs.Written.{consented_written}
use Rattle.payer_book.specs.declared.book.payment.Payment.{Payment}
use Rattle.payer_book.specs.Ledger.{Ledger, standing_in}
use Rattle.payer_book.specs.Changes.{change_by, changes_by, payments_after}
use Rattle.payer_book.specs.Drafts.{judged_on, amounts_in, kept_verdict, Asking, asking_of, kept_consent, AsKept, price_at, consent_at, ruling_by, rulings_on}
use Rattle.payer_book.specs.Books.{reading, payments_of, IsBook}
use Rattle.payer_book.specs.Added.{KeptRow, answer_under, kept_answer, kept_row, kept_ruling_of, kept_ruling, kept_rulings_from, kept_rulings, carried_in, row_saying, with_row, with_answer, with_kept, added, added_all}
use Rattle.payer_book.specs.MadeBooks.{IsTold, IsMade}
use Rattle.payer_book.specs.Entries.{with_plan}
use Rattle.payer_book.specs.Following.{MayReject, MayDeny, FollowsRules, AllFollow, RowStands, IsKeptBook, KeepsRows}
use Rattle.claim_model.proofs.Tests.{bytes_same, nat_self}
use Rattle.payer_book.proofs.Keeping.{rulings_by_on, get_front}
use Rattle.payer_book.proofs.RulingLemmas.{length_rulings}
use Rattle.payer_book.proofs.Growth.{payments_more, judged_same, standing_more}
use Rattle.payer_book.proofs.Tellable.{settled_told, change_told}
use Rattle.payer_book.proofs.Entered.{book_more}
use Rattle.payer_book.proofs.KeptRows.{added_kept}
use Rattle.payer_book.proofs.Grown.{row_stands, made_after, no_row}

-- what was added follows the rules

cond_some : {A : Type 0} (t : Bool) (o : Option A) (a : A) → cond t o None ≡ Some a → (t ≡ true) × (o ≡ Some a)
cond_some true o a e = (refl, e)
cond_some false o a e = absurd cc

none_there : (o : Option Row) → is_none o ≡ true → o ≡ None
none_there None e = refl
none_there (Some r) e = absurd cc

-- codes that an answer says
codes_follow : (b : Book) (before : List Ruled) (c : Claim) (o : Option Ruling) → ((claimed : ℕ) (v : Verdict) → verdict_in claimed o ≡ Some v → IsVerdict v) → (asks : Bool) → b.settings.asks ≡ asks → FollowsRules b before (ToPrice c) (priced (next_auth b before) c (kept_verdict asks c.fill.prescription o))
codes_follow b before c o well true is = by_verdict (verdict_in c.fill.prescription o) (λ v e. well c.fill.prescription v e)
  where
    rejects : (codes : List Code) → IsRejects codes → MayReject b.settings.asks codes
    rejects codes r = subst (λ (t : Bool). MayReject t codes) (sym is) r

    by_verdict : (v : Option Verdict) → ((w : Verdict) → v ≡ Some w → IsVerdict w) → FollowsRules b before (ToPrice c) (priced (next_auth b before) c v)
    by_verdict None f = inl (Code.NotCovered ∷ [], rejects (Code.NotCovered ∷ []) (record { some = omega arith; few = omega arith; each = (refl, tt) }), refl)
    by_verdict (Some (Rejects codes)) f = inl (codes, rejects codes (f (Rejects codes) refl), refl)
    by_verdict (Some (Pays m)) f = inr (m, f (Pays m) refl, refl)
codes_follow b before c o well false is = by_amounts (amounts_in o) (λ m e. pays_well o m well e)
  where
    pays_well : (p : Option Ruling) (m : Amounts) → ((claimed : ℕ) (v : Verdict) → verdict_in claimed p ≡ Some v → IsVerdict v) → amounts_in p ≡ Some m → IsAmounts m
    pays_well None m f e = absurd cc
    pays_well (Some (Paid auth n x)) m f e = subst IsAmounts (same_some x m e) (f n (Pays x) (ap (λ (t : Bool). cond t (Some (Pays x)) None) (nat_self n)))
    pays_well (Some (Duplicate auth n x)) m f e = absurd cc
    pays_well (Some (Reversed auth n)) m f e = absurd cc
    pays_well (Some (Rejected codes)) m f e = absurd cc

    by_amounts : (p : Option Amounts) → ((m : Amounts) → p ≡ Some m → IsAmounts m) → FollowsRules b before (ToPrice c) (priced (next_auth b before) c (Some (planned p)))
    by_amounts None f = inl (Code.NotCovered ∷ [], subst (λ (t : Bool). MayReject t (Code.NotCovered ∷ [])) (sym is) refl, refl)
    by_amounts (Some m) f = inr (m, f m refl, refl)

-- and of a reversal
consent_follows : (b : Book) (before : List Ruled) (auth : Auth) (v : Reversal) (o : Option Ruling) → ((n : ℕ) (w : Verdict) → verdict_in n o ≡ Some w → IsVerdict w) → (asks : Bool) → asks_reversals b.settings ≡ asks
    → FollowsRules b before (ToReverse auth v) (taken_back auth v (cond asks (consent_in v.prescription o) (Some Allows)))
consent_follows b before auth v o well true is = by_consent (consent_in v.prescription o) (λ k e. consented_written v.prescription o well k e)
  where
    denies : (codes : List Code) → IsRejects codes → MayDeny (asks_reversals b.settings) codes
    denies codes r = subst (λ (t : Bool). MayDeny t codes) (sym is) r

    by_consent : (p : Option Consent) → ((k : Consent) → p ≡ Some k → IsConsent k) → FollowsRules b before (ToReverse auth v) (taken_back auth v p)
    by_consent None f = inl (Code.ReversalNotProcessed ∷ [], denies (Code.ReversalNotProcessed ∷ []) (record { some = omega arith; few = omega arith; each = (refl, tt) }), refl)
    by_consent (Some Allows) f = inr refl
    by_consent (Some (Denies codes)) f = inl (codes, denies codes (f (Denies codes) refl), refl)
consent_follows b before auth v o well false is = inr refl

kept_follows : (b : Book) (before : List Ruled) (said : List Ruling) (place : ℕ) (j : Judged) → AdvisesWell said → FollowsRules b before j (kept_ruling_of b before (numbered said place) j)
kept_follows b before said place (Unpriced settled) well = refl
kept_follows b before said place (ToPrice c) well = codes_follow b before c (numbered said place) (λ claimed v e. well place claimed v e) b.settings.asks refl
kept_follows b before said place (ToReverse auth v) well = consent_follows b before auth v (numbered said place) (λ n w e. well place n w e) (asks_reversals b.settings) refl

ruling_follows : (b : Book) (before : List Ruled) (said : List Ruling) (place : ℕ) (order : Result Order (List Code)) → AdvisesWell said → FollowsRules b before (judged before order) (kept_ruling b before (numbered said place) order)
unfolding kept_ruling
ruling_follows b before said place order well = kept_follows b before said place (judged before order) well

all_follow : (b : Book) (before : List Ruled) (id : TxnId) (place : ℕ) (orders : List (Result Order (List Code))) (said : List Ruling) → AdvisesWell said → AllFollow b before id place orders (kept_rulings_from b before id place orders said)
all_follow b before id place [] said pays = tt
all_follow b before id place (order ∷ orders) said pays =
    let r : Ruling = kept_ruling b before (numbered said place) order in
    (ruling_follows b before said place order pays, all_follow b (before ++ ruled id place order r ∷ []) id (place + 1) orders said pays)

module _ (laws : (routes : RouteMaps) → Laws (bytes_with routes)) (b : Book) (id : TxnId) (request answer : List ℕ) (after : Book) where
  with_stands : length b.rows < b.settings.cap → row_of id b.rows ≡ None → (o : Option RequestHeader) (p : Option Answer) → readable_header request ≡ o → reading.read_answer answer ≡ p → with_answer b id request answer o p ≡ Some after
      → RowStands b id request answer after
  with_stands room fresh None p reads says e = absurd cc
  with_stands room fresh (Some h) None reads says e = absurd cc
  with_stands room fresh (Some h) (Some said) reads says e =
      let rulings : List Ruling = kept_rulings b id request said.rulings in
      let bytes : List ℕ = carrying_text h AcceptedStatus rulings (carried_in b request rulings answer) in
      let c = cond_some (list_all serial_fits rulings && bytes_eq bytes answer) (Some (with_row b (row_saying b id request rulings answer))) after e in
      let t = and_parts (list_all serial_fits rulings) (bytes_eq bytes answer) c.0 in
      record {
        room = room;
        fresh = fresh;
        header = h;
        reads = reads;
        rulings = rulings;
        follow = all_follow b (ruled_rows reading b.rows) id 1 (reading.orders request) said.rulings ((laws (routes_of [])).sayings answer said says);
        fit = t.0;
        text = sym (bytes_same bytes answer t.1);
        book = sym (same_some _ after c.1);
      }

  pub added_stands : added b id request answer ≡ Some after → RowStands b id request answer after
  unfolding added with_kept
  added_stands e =
      let c = cond_some (nat_lt (length b.rows) b.settings.cap && is_none (row_of id b.rows)) (with_kept b id request answer) after e in
      let t = and_parts (nat_lt (length b.rows) b.settings.cap) (is_none (row_of id b.rows)) c.0 in
      with_stands (ltb-true (length b.rows) b.settings.cap t.0) (none_there (row_of id b.rows) t.1) (readable_header request) (reading.read_answer answer) refl refl c.1

-- rulings that follow the rules are ruled again

again_one : (b : Book) (before : List Ruled) (j : Judged) (r : Ruling) → FollowsRules b before j r → kept_ruling_of b before (Some r) j ≡ r
again_one b before (Unpriced settled) r f = sym f
again_one b before (ToPrice c) r (inl e) = ap (λ (x : Ruling). priced (next_auth b before) c (kept_verdict b.settings.asks c.fill.prescription (Some x))) e.2 ∙ (by_asks b.settings.asks e.1 ∙ sym e.2)
  where
    by_asks : (t : Bool) → MayReject t e.0 → priced (next_auth b before) c (kept_verdict t c.fill.prescription (Some (Rejected e.0))) ≡ Rejected e.0
    by_asks true m = refl
    by_asks false m = ap (λ (codes : List Code). Rejected codes) (sym m)
again_one b before (ToPrice c) r (inr p) = ap (λ (x : Ruling). priced (next_auth b before) c (kept_verdict b.settings.asks c.fill.prescription (Some x))) p.2 ∙ (by_asks b.settings.asks ∙ sym p.2)
  where
    by_asks : (t : Bool) → priced (next_auth b before) c (kept_verdict t c.fill.prescription (Some (Paid (next_auth b before) c.fill.prescription p.0))) ≡ Paid (next_auth b before) c.fill.prescription p.0
    by_asks true = ap (λ (t : Bool). priced (next_auth b before) c (cond t (Some (Pays p.0)) None)) (nat_self c.fill.prescription)
    by_asks false = refl
again_one b before (ToReverse auth v) r (inl e) = ap (λ (x : Ruling). taken_back auth v (kept_consent (asking_of b.settings) v.prescription (Some x))) e.2 ∙ (by_asks (asks_reversals b.settings) e.1 ∙ sym e.2)
  where
    by_asks : (t : Bool) → MayDeny t e.0 → taken_back auth v (cond t (Some (Denies e.0)) (Some Allows)) ≡ Rejected e.0
    by_asks true m = refl
    by_asks false m = absurd m
again_one b before (ToReverse auth v) r (inr p) = ap (λ (x : Ruling). taken_back auth v (kept_consent (asking_of b.settings) v.prescription (Some x))) p ∙ (by_asks (asks_reversals b.settings) ∙ sym p)
  where
    by_asks : (t : Bool) → taken_back auth v (cond t (cond (v.prescription == v.prescription) (Some Allows) None) (Some Allows)) ≡ Reversed auth v.prescription
    by_asks true = ap (λ (t : Bool). taken_back auth v (cond t (Some Allows) None)) (nat_self v.prescription)
    by_asks false = refl

ruled_again : (b : Book) (before : List Ruled) (order : Result Order (List Code)) (r : Ruling) → FollowsRules b before (judged before order) r → kept_ruling b before (Some r) order ≡ r
unfolding kept_ruling
ruled_again b before order r f = again_one b before (judged before order) r f

again_from : (b : Book) (before : List Ruled) (id : TxnId) (place : ℕ) (orders : List (Result Order (List Code))) (said front rulings : List Ruling) → said ≡ front ++ rulings → place ≡ suc (length front) → AllFollow b before id place orders rulings
    → kept_rulings_from b before id place orders said ≡ rulings
again_from b before id place [] said front [] e at all = refl
again_from b before id place [] said front (r ∷ rulings) e at all = absurd all
again_from b before id place (order ∷ orders) said front [] e at all = absurd all
again_from b before id place (order ∷ orders) said front (r ∷ rulings) e at all =
    let here : numbered said place ≡ Some r = ap (λ (n : ℕ). numbered said n) at ∙ (ap (λ (rs : List Ruling). slice_get rs (length front)) e ∙ get_front front r rulings) in
    let same : kept_ruling b before (numbered said place) order ≡ r = ap (λ (o : Option Ruling). kept_ruling b before o order) here ∙ ruled_again b before order r all.0 in
    let next : place + 1 ≡ suc (length (front ++ r ∷ [])) = omega (arith, at, length-append front (r ∷ [])) in
    ap (λ (x : Ruling). x ∷ kept_rulings_from b (before ++ ruled id place order x ∷ []) id (place + 1) orders said) same
    ∙ ap (λ (rs : List Ruling). r ∷ rs) (again_from b (before ++ ruled id place order r ∷ []) id (place + 1) orders said (front ++ r ∷ []) rulings (e ∙ sym (append_assoc front (r ∷ []) rulings)) next all.1)

-- and can be told in an answer

may_reject : (asks : Bool) (codes : List Code) → MayReject asks codes → IsRejects codes
may_reject true codes m = m
may_reject false codes m = subst IsRejects (sym m) (record { some = omega arith; few = omega arith; each = (refl, tt) })

may_deny : (asks : Bool) (codes : List Code) → MayDeny asks codes → IsRejects codes
may_deny true codes m = m
may_deny false codes m = absurd m

-- a payer that asks about all
abbrev asks_all : Asking
asks_all = record { asks = true; reversals = true }

told_one : (b : Book) (before : List Ruled) (h : RequestHeader) (order : Result Order (List Code)) (r : Ruling) → 1 ≤ b.payer → b.payer ≤ 9999 → 1 ≤ b.settings.serial → AllByRecursion IsTold (standing_in (payments_of before))
    → IsOrderOf h order → FollowsRules b before (judged before order) r → serial_fits r ≡ true → IsRuling r
told_one b before h order r payer payer_fits serial told of_it f fits = by_judged (judged before order) (judged_same before order) f
  where
    -- it is ruled so where an answer says this
    said_so : (said : List Ruling) → ((c : Claim) (v : Verdict) → IsClaimOf h c → price_at (AsKept asks_all said) 0 c ≡ Some v → IsVerdict v) → ((v : Reversal) (k : Consent) → consent_at (AsKept asks_all said) 0 v ≡ Some k → IsConsent k)
        → ruling_by (next_auth b before) (AsKept asks_all said) 0 (judged_on (standing_in (payments_of before)) order) ≡ r → IsRuling r
    said_so said verdicts consents same =
        subst IsRuling same
        (settled_told (next_auth b before) payer payer_fits (omega (arith, serial)) (AsKept asks_all said) 0 h verdicts consents (standing_in (payments_of before)) told order of_it (ap serial_fits same ∙ fits))

    by_judged : (j : Judged) → j ≡ judged_on (standing_in (payments_of before)) order → FollowsRules b before j r → IsRuling r
    by_judged (Unpriced given) e g = said_so [] (λ c v of_claim k. absurd cc) (λ v k q. absurd cc) (ap (ruling_by (next_auth b before) (AsKept asks_all []) 0) (sym e) ∙ sym g)
    by_judged (ToPrice c) e (inl g) =
        said_so (Rejected g.0 ∷ []) (λ d v of_claim k. subst IsVerdict (same_some (Rejects g.0) v k) (may_reject b.settings.asks g.0 g.1))
        (λ v k q. subst IsConsent (same_some (Denies g.0) k q) (may_reject b.settings.asks g.0 g.1)) (ap (ruling_by (next_auth b before) (AsKept asks_all (Rejected g.0 ∷ [])) 0) (sym e) ∙ sym g.2)
    by_judged (ToPrice c) e (inr p) =
        said_so (Paid (next_auth b before) c.fill.prescription p.0 ∷ []) (λ d v of_claim k. subst IsVerdict (same_some (Pays p.0) v (cond_some (c.fill.prescription == d.fill.prescription) (Some (Pays p.0)) v k).1) p.1) (λ v k q. absurd cc)
        (ap (ruling_by (next_auth b before) (AsKept asks_all (Paid (next_auth b before) c.fill.prescription p.0 ∷ [])) 0) (sym e)
        ∙ (ap (λ (t : Bool). priced (next_auth b before) c (cond t (Some (Pays p.0)) None)) (nat_self c.fill.prescription) ∙ sym p.2))
    by_judged (ToReverse auth v) e (inl g) =
        said_so (Rejected g.0 ∷ []) (λ d w of_claim k. subst IsVerdict (same_some (Rejects g.0) w k) (may_deny (asks_reversals b.settings) g.0 g.1))
        (λ w k q. subst IsConsent (same_some (Denies g.0) k q) (may_deny (asks_reversals b.settings) g.0 g.1)) (ap (ruling_by (next_auth b before) (AsKept asks_all (Rejected g.0 ∷ [])) 0) (sym e) ∙ sym g.2)
    by_judged (ToReverse auth v) e (inr p) =
        said_so (Reversed auth v.prescription ∷ []) (λ d w of_claim k. absurd cc)
        (λ w k q. subst IsConsent (same_some Allows k (cond_some (v.prescription == w.prescription) (Some Allows) k q).1) tt)
        (ap (ruling_by (next_auth b before) (AsKept asks_all (Reversed auth v.prescription ∷ [])) 0) (sym e)
        ∙ (ap (λ (t : Bool). taken_back auth v (cond t (Some Allows) None)) (nat_self v.prescription) ∙ sym p))

all_told : (b : Book) (before : List Ruled) (h : RequestHeader) (id : TxnId) (place : ℕ) (orders : List (Result Order (List Code))) (rulings : List Ruling) → 1 ≤ b.payer → b.payer ≤ 9999 → 1 ≤ b.settings.serial
    → AllByRecursion IsTold (standing_in (payments_of before)) → AllByRecursion (IsOrderOf h) orders → AllFollow b before id place orders rulings → list_all serial_fits rulings ≡ true → AllByRecursion IsRuling rulings
all_told b before h id place [] [] payer payer_fits serial told of_it all fit = tt
all_told b before h id place [] (r ∷ rulings) payer payer_fits serial told of_it all fit = absurd all
all_told b before h id place (order ∷ orders) [] payer payer_fits serial told of_it all fit = tt
all_told b before h id place (order ∷ orders) (r ∷ rulings) payer payer_fits serial told of_it all fit =
    let fits = and_parts (serial_fits r) (list_all serial_fits rulings) fit in
    let is : IsRuling r = told_one b before h order r payer payer_fits serial told of_it.0 all.0 fits.0 in
    let x : Ruled = ruled id place order r in
    let next : AllByRecursion IsTold (standing_in (payments_of (before ++ x ∷ []))) =
    subst (AllByRecursion IsTold) (sym (ap standing_in (payments_more before x) ∙ standing_more id (payments_of before) (change_by order r))) (change_told order r (standing_in (payments_of before)) is told) in
    (is, all_told b (before ++ x ∷ []) h id (place + 1) orders rulings payer payer_fits serial next of_it.1 all.1 fits.1)

-- a book with the payments that its rows come to
record HasLedger (b : Book) : Type 0 where
  ledger : Ledger
  book : IsBook b.payer b.settings.serial b.rows ledger
  made : IsMade b.payer b.settings b.rows ledger

module _ (laws : (routes : RouteMaps) → Laws (bytes_with routes)) where
  module _ (b : Book) (has : HasLedger b) (id : TxnId) (request : List ℕ) (h : RequestHeader) (reads : readable_header request ≡ Some h) (rulings : List Ruling)
      (follow : AllFollow b (ruled_rows reading b.rows) id 1 (reading.orders request) rulings) (fit : list_all serial_fits rulings ≡ true) (said : List ℕ) where
    ruled_so : rulings ≡ kept_rulings b id request rulings
    ruled_so = sym (again_from b (ruled_rows reading b.rows) id 1 (reading.orders request) rulings [] rulings refl refl follow)

    ruled_on : rulings ≡ rulings_on has.ledger (AsKept (asking_of b.settings) rulings) [] (reading.orders request)
    ruled_on = ruled_so ∙ rulings_by_on b has.ledger has.book id request (AsKept (asking_of b.settings) rulings) refl

    read_so : readable reading request ≡ Some h
    read_so = readable_alike (routes_of []) request ∙ reads

    told_so : AllByRecursion IsRuling rulings
    told_so =
        all_told b (ruled_rows reading b.rows) h id 1 (reading.orders request) rulings has.made.some_payer has.made.payer_fits has.made.some_serial
        (subst (λ (ps : List Payment). AllByRecursion IsTold (standing_in ps)) has.book.kept.payments has.made.told) ((laws (routes_of [])).orders request h read_so) follow fit

    abbrev row_so : Row
    row_so = row_saying b id request rulings said

    stands_so : (plan : Plan) → with_kept (with_plan b plan) id request (kept_answer row_so) ≡ Some (with_row (with_plan b plan) row_so)
    stands_so =
        let count : length rulings ≡ h.count =
        ap (λ (rs : List Ruling). length rs) ruled_on ∙ (length_rulings has.ledger (AsKept (asking_of b.settings) rulings) [] (reading.orders request) ∙ (laws (routes_of [])).groups request h read_so) in
        row_stands laws b row_so h reads count told_so ruled_so fit said refl

  stands_added : (b : Book) (id : TxnId) (request answer : List ℕ) (after : Book) → HasLedger b → RowStands b id request answer after → added b id request answer ≡ Some after
  stands_added b id request answer after has s =
      let row : Row = row_saying b id request s.rulings answer in
      let text : answer ≡ kept_answer row = s.text ∙ sym (ap (λ (o : Option RequestHeader). answer_under o row) s.reads) in
      added_kept b id request answer s.room (no_row (row_of id b.rows) s.fresh)
      ∙ (ap (with_kept b id request) text ∙ (stands_so b has id request s.header s.reads s.rulings s.follow s.fit answer b.plan ∙ ap (λ (x : Book). Some x) (sym s.book)))

  -- every book that was made by adding has such payments

  grown : (b : Book) (id : TxnId) (request answer : List ℕ) (after : Book) → HasLedger b → RowStands b id request answer after → HasLedger after
  grown b id request answer after has s =
      let l = has.ledger in
      let row : Row = row_saying b id request s.rulings answer in
      let changes = changes_by (reading.orders request) s.rulings in
      let m : Ledger = record { payer = l.payer; first = l.first; payments = payments_after id l.payments changes; room = 0 } in
      subst HasLedger (sym s.book)
      (record {
        ledger = m;
        book = book_more b l has.book row (ruled_so b has id request s.header s.reads s.rulings s.follow s.fit answer) m refl refl refl;
        made = made_after b l has.made row s.room s.fresh (stands_so b has id request s.header s.reads s.rulings s.follow s.fit answer) (told_so b has id request s.header s.reads s.rulings s.follow s.fit answer)
            l m refl changes refl id (b.rows ++ row ∷ []) refl refl;
      })

  module _ where
    all_grown : (rows : List KeptRow) (b after : Book) → HasLedger b → added_all (Some b) rows ≡ Some after → HasLedger after
    all_grown [] b after has e = subst HasLedger (same_some b after e) has
    all_grown (k ∷ rows) b after has e = by_case (added b k.id k.request k.answer) refl (λ x more f. all_grown rows x after more f) e
      where
        by_case : (o : Option Book) → added b k.id k.request k.answer ≡ o → ((x : Book) → HasLedger x → added_all (Some x) rows ≡ Some after → HasLedger after) → added_all o rows ≡ Some after → HasLedger after
        by_case None is later f = absurd cc
        by_case (Some x) is later f = later x (grown b k.id k.request k.answer x has (added_stands laws b k.id k.request k.answer x is)) f

    nothing_ruled : (payer : ℕ) (settings : BookSettings) (plan : Plan) → 1 ≤ payer → payer ≤ 9999 → 1 ≤ settings.serial → HasLedger (record { payer = payer; settings = settings; plan = plan; rows = [] })
    nothing_ruled payer settings plan some fits serial = record {
      ledger = record { payer = payer; first = settings.serial; payments = []; room = 0 };
      book = record { of_payer = refl; from_serial = refl; kept = record { payments = refl; counted = refl } };
      made = record { some_payer = some; payer_fits = fits; some_serial = serial; in_limit = omega arith; made = λ plan. refl; told = tt };
    }

    kept_ledger : (b : Book) → IsKeptBook b → HasLedger b
    kept_ledger b k = all_grown (map kept_row b.rows) (record { payer = b.payer; settings = b.settings; plan = b.plan; rows = [] }) b (nothing_ruled b.payer b.settings b.plan k.some_payer k.payer_fits k.some_serial) k.made

    -- what follows the rules is added
    pub follows_added : (b : Book) (id : TxnId) (request answer : List ℕ) (after : Book) → IsKeptBook b → RowStands b id request answer after → added b id request answer ≡ Some after
    follows_added b id request answer after k s = stands_added b id request answer after (kept_ledger b k) s

-- what is kept of a longer book

last_kept : (b after : Book) (id : TxnId) (request answer : List ℕ) → RowStands b id request answer after → map kept_row after.rows ≡ map kept_row b.rows ++ record { id = id; request = request; answer = answer } ∷ []
last_kept b after id request answer s =
    let row : Row = row_saying b id request s.rulings answer in
    let text : kept_answer row ≡ answer = ap (λ (o : Option RequestHeader). answer_under o row) s.reads ∙ sym s.text in
    ap (λ (x : Book). map kept_row x.rows) s.book
    ∙ (map-append kept_row b.rows (row ∷ []) ∙ ap (λ (t : List ℕ). let k : KeptRow = record { id = id; request = request; answer = t } in map kept_row b.rows ++ k ∷ []) text)

pub row_kept : ((routes : RouteMaps) → Laws (bytes_with routes)) → (b : Book) (id : TxnId) (request answer : List ℕ) (after : Book) → added b id request answer ≡ Some after → KeepsRows b (record { id = id; request = request; answer = answer } ∷ []) after
row_kept laws b id request answer after e =
    let s = added_stands laws b id request answer after e in record {
      payer = ap (λ (x : Book). x.payer) s.book;
      settings = ap (λ (x : Book). x.settings) s.book;
      plan = ap (λ (x : Book). x.plan) s.book;
      rows = last_kept b after id request answer s;
    }

pub rows_kept : ((routes : RouteMaps) → Laws (bytes_with routes)) → (b : Book) (rows : List KeptRow) (after : Book) → added_all (Some b) rows ≡ Some after → KeepsRows b rows after
rows_kept laws b [] after e = subst (KeepsRows b []) (same_some b after e) (record { payer = refl; settings = refl; plan = refl; rows = sym (append-nil (map kept_row b.rows)) })
rows_kept laws b (k ∷ rows) after e = by_case (added b k.id k.request k.answer) refl (λ x f. rows_kept laws x rows after f) e
  where
    by_case : (o : Option Book) → added b k.id k.request k.answer ≡ o → ((x : Book) → added_all (Some x) rows ≡ Some after → KeepsRows x rows after) → added_all o rows ≡ Some after → KeepsRows b (k ∷ rows) after
    by_case None is later f = absurd cc
    by_case (Some x) is later f =
        let one = row_kept laws b k.id k.request k.answer x is in
        let all = later x f in
        record {
          payer = all.payer ∙ one.payer;
          settings = all.settings ∙ one.settings;
          plan = all.plan ∙ one.plan;
          rows = all.rows ∙ (ap (λ (ks : List KeptRow). ks ++ rows) one.rows ∙ append_assoc (map kept_row b.rows) (k ∷ []) rows);
        }
