-- What holds of all that a payer ruled: whom each ruling names, each payment under its own authorization, no fill with two standing payments.
use Rattle.std.proofs.Common.{◌≡◌, ℕ, ◌+◌, ◌<◌, ◌≤◌, Bool, true, false, cond, List, [], ◌∷◌, ◌++◌, map, Option, Some, None, Result, Ok, Err, refl, sym, ap, ◌∙◌, subst, append_assoc, arith}
use Rattle.std.specs.Prelude.{find, filter, count_by, ⊤}
use Rattle.std.specs.List.{AllByRecursion}
use Rattle.std.proofs.lemmas.List.{append-nil}
use Rattle.std.proofs.lemmas.List.Sums.{sum_by-append}
use Rattle.std.proofs.lemmas.List.Elements.{filter-append}
use Rattle.std.proofs.lemmas.Bool.{cond-true, false_from_ne_true, both_ways}
use Rattle.claim_model.specs.Words.{Advice, TxnId, Auth, Amounts, Fill, Claim, Reversal, Order, Bills, Reverses, Code, Ruling, Paid, Duplicate, Reversed, Rejected}
use Rattle.claim_model.specs.Context.{Context}
use Rattle.claim_model.specs.Ruled.{Ruled, ruled, ruled_from}
use Rattle.claim_model.specs.Payments.{Payment, same_auth, payments, is_standing, standing, payment_of}
use Rattle.claim_model.specs.Rows.{Row, Book, ruled_row, ruled_rows}
use Rattle.claim_model.specs.Judgement.{same_fill, same_claim, is_for, standing_for, payment_to_reverse, Unpriced, judged_claim, judged_reversal, judged, is_paid, next_serial, next_auth, Verdict, Pays, Rejects, verdict_of, priced, Consent, Allows, Denies, consent_of, taken_back, ruling_of, ruling, rulings_from}
use Rattle.claim_model.proofs.Lists.{all_append, all_weaker, all_map, all_filter, find_all, find_passes}
use Rattle.claim_model.proofs.Tests.{auth_same, auth_self, fill_same, fill_self}
use Rattle.claim_model.proofs.Written.{only_all}
use Rattle.claim_model.proofs.Marks.{mark, payments_more, payment_of_more, payment_of_new, NoFillTwice, no_fill_twice_marked, still_others, no_fill_twice_more, reversed_marked, reversed_by_mark}

abbrev pub count_paid : List Ruled → ℕ
count_paid rs = count_by (λ (r : Ruled). is_paid r.ruling) rs

count_append : (rs : List Ruled) (x : Ruled) → count_paid (rs ++ x ∷ []) ≡ count_paid rs + count_paid (x ∷ [])
count_append rs x = sum_by-append (λ (r : Ruled). cond (is_paid r.ruling) 1 0) rs (x ∷ [])

-- there is a payment with this authorization, of this claim and with these amounts
pub record PaidAs (rs : List Ruled) (auth : Auth) (claim : Claim) (amounts : Amounts) : Type 0 where
  pub payment : Payment
  pub found : payment_of auth rs ≡ Some payment
  pub claim_is : payment.claim ≡ claim
  pub amounts_are : payment.amounts ≡ amounts

-- there is a payment with this authorization, of this fill and with these amounts
pub record PaidFor (rs : List Ruled) (auth : Auth) (fill : Fill) (amounts : Amounts) : Type 0 where
  pub payment : Payment
  pub found : payment_of auth rs ≡ Some payment
  pub fill_is : payment.claim.fill ≡ fill
  pub amounts_are : payment.amounts ≡ amounts

-- there is a payment with this authorization that does not stand any more, and the reversal is for its claim
pub record Reversing (rs : List Ruled) (auth : Auth) (v : Reversal) : Type 0 where
  pub payment : Payment
  pub found : payment_of auth rs ≡ Some payment
  pub for_it : is_for v payment.claim ≡ true
  pub reversed : is_standing payment ≡ false

abbrev pub Names : List Ruled → Result Order (List Code) → Ruling → Type 0
Names rs (Ok (Bills c)) (Paid auth n m) = PaidAs rs auth c m
Names rs (Ok (Bills c)) (Duplicate auth n m) = PaidFor rs auth c.fill m
Names rs (Ok (Bills c)) (Reversed auth n) = ⊥
Names rs (Ok (Bills c)) (Rejected codes) = ⊤
Names rs (Ok (Reverses v)) (Paid auth n m) = ⊥
Names rs (Ok (Reverses v)) (Duplicate auth n m) = ⊥
Names rs (Ok (Reverses v)) (Reversed auth n) = Reversing rs auth v
Names rs (Ok (Reverses v)) (Rejected codes) = ⊤
Names rs (Err codes) (Paid auth n m) = ⊥
Names rs (Err codes) (Duplicate auth n m) = ⊥
Names rs (Err codes) (Reversed auth n) = ⊥
Names rs (Err codes) (Rejected rejects) = ⊤

abbrev pub Named_in : List Ruled → Ruled → Type 0
Named_in rs r = Names rs r.order r.ruling

abbrev pub Found : List Ruled → Payment → Type 0
Found rs p = payment_of p.auth rs ≡ Some p

-- an authorization is this payer's, and its serial was given
pub record Given (payer bound : ℕ) (p : Payment) : Type 0 where
  pub payer_is : p.auth.payer ≡ payer
  pub below : p.auth.serial < bound

pub record Ledger (payer serial : ℕ) (rs : List Ruled) : Type 0 where
  pub names : AllByRecursion (Named_in rs) rs
  pub found : AllByRecursion (Found rs) (payments rs)
  pub serials : AllByRecursion (Given payer (serial + count_paid rs)) (payments rs)
  pub fills : NoFillTwice (standing rs)

pub empty_ledger : (payer serial : ℕ) → Ledger payer serial []
empty_ledger payer serial = record { names = tt; found = tt; serials = tt; fills = tt }

-- one more ruling

names_more : (rs : List Ruled) (x : Ruled) (order : Result Order (List Code)) (given : Ruling) → Names rs order given → Names (rs ++ x ∷ []) order given
names_more rs x (Ok (Bills c)) (Paid auth n m) h = record { payment = mark x h.payment; found = payment_of_more rs x auth h.payment h.found; claim_is = h.claim_is; amounts_are = h.amounts_are }
names_more rs x (Ok (Bills c)) (Duplicate auth n m) h = record { payment = mark x h.payment; found = payment_of_more rs x auth h.payment h.found; fill_is = h.fill_is; amounts_are = h.amounts_are }
names_more rs x (Ok (Bills c)) (Reversed auth n) h = h
names_more rs x (Ok (Bills c)) (Rejected codes) h = tt
names_more rs x (Ok (Reverses v)) (Paid auth n m) h = h
names_more rs x (Ok (Reverses v)) (Duplicate auth n m) h = h
names_more rs x (Ok (Reverses v)) (Reversed auth n) h = record { payment = mark x h.payment; found = payment_of_more rs x auth h.payment h.found; for_it = h.for_it; reversed = reversed_marked x h.payment.auth h.payment.reversed_by h.reversed }
names_more rs x (Ok (Reverses v)) (Rejected codes) h = tt
names_more rs x (Err codes) (Paid auth n m) h = h
names_more rs x (Err codes) (Duplicate auth n m) h = h
names_more rs x (Err codes) (Reversed auth n) h = h
names_more rs x (Err codes) (Rejected rejects) h = tt

count_more : (rs : List Ruled) (x : Ruled) → count_paid rs ≤ count_paid (rs ++ x ∷ [])
count_more rs x = omega (arith, count_append rs x)

given_more : (payer serial : ℕ) (rs : List Ruled) (x : Ruled) (p : Payment) → Given payer (serial + count_paid rs) p → Given payer (serial + count_paid (rs ++ x ∷ [])) (mark x p)
given_more payer serial rs x p g = record { payer_is = g.payer_is; below = omega (arith, count_more rs x, g.below) }

-- a ledger goes on where the new ruling names what is there, and what it pays is new
ledger_with : (payer serial : ℕ) (rs : List Ruled) (x : Ruled) → Ledger payer serial rs → Named_in (rs ++ x ∷ []) x → AllByRecursion (Found (rs ++ x ∷ [])) (payments (x ∷ []))
    → AllByRecursion (Given payer (serial + count_paid (rs ++ x ∷ []))) (payments (x ∷ [])) → NoFillTwice (filter is_standing (map (mark x) (payments rs)) ++ filter is_standing (payments (x ∷ [])))
    → Ledger payer serial (rs ++ x ∷ [])
ledger_with payer serial rs x l named found given fills =
    let more = sym (payments_more rs x) in
    record {
      names = all_append (Named_in (rs ++ x ∷ [])) rs (x ∷ []) (all_weaker (Named_in rs) (Named_in (rs ++ x ∷ [])) (λ r h. names_more rs x r.order r.ruling h) rs l.names) (named, tt);
      found =
          subst (AllByRecursion (Found (rs ++ x ∷ []))) more
          (all_append (Found (rs ++ x ∷ [])) (map (mark x) (payments rs)) (payments (x ∷ []))
          (all_map (Found rs) (Found (rs ++ x ∷ [])) (mark x) (λ p h. payment_of_more rs x p.auth p h) (payments rs) l.found) found);
      serials =
          subst (AllByRecursion (Given payer (serial + count_paid (rs ++ x ∷ [])))) more
          (all_append (Given payer (serial + count_paid (rs ++ x ∷ []))) (map (mark x) (payments rs)) (payments (x ∷ []))
          (all_map (Given payer (serial + count_paid rs)) (Given payer (serial + count_paid (rs ++ x ∷ []))) (mark x) (given_more payer serial rs x) (payments rs) l.serials) given);
      fills =
          subst (λ ps. NoFillTwice (filter is_standing ps)) more
          (subst NoFillTwice (sym (filter-append is_standing (map (mark x) (payments rs)) (payments (x ∷ [])))) fills);
    }

-- a ruling that pays nothing
ledger_unpaid : (payer serial : ℕ) (rs : List Ruled) (x : Ruled) → Ledger payer serial rs → Named_in (rs ++ x ∷ []) x → payments (x ∷ []) ≡ [] → Ledger payer serial (rs ++ x ∷ [])
ledger_unpaid payer serial rs x l named e =
    ledger_with payer serial rs x l named (subst (AllByRecursion (Found (rs ++ x ∷ []))) (sym e) tt) (subst (AllByRecursion (Given payer (serial + count_paid (rs ++ x ∷ [])))) (sym e) tt)
    (subst (λ ps. NoFillTwice (filter is_standing (map (mark x) (payments rs)) ++ filter is_standing ps)) (sym e)
    (subst NoFillTwice (sym (append-nil (filter is_standing (map (mark x) (payments rs))))) (no_fill_twice_marked x (payments rs) l.fills)))

-- a ruling that pays

none_found : {A : Type 0} (test : A → Bool) (xs : List A) → AllByRecursion (λ x. test x ≡ false) xs → find test xs ≡ None
none_found test [] all = refl
none_found test (x ∷ xs) all = Rattle.std.proofs.lemmas.Bool.cond-false (test x) (Some x) (find test xs) all.0 ∙ none_found test xs all.1

none_passes : {A : Type 0} (test : A → Bool) (xs : List A) → find test xs ≡ None → AllByRecursion (λ x. test x ≡ false) xs
none_passes test [] e = tt
none_passes test (x ∷ xs) e = by_test (test x) refl e (none_passes test xs)
  where
    by_test : (b : Bool) → test x ≡ b → cond b (Some x) (find test xs) ≡ None → (find test xs ≡ None → AllByRecursion (λ y. test y ≡ false) xs) → (test x ≡ false) × AllByRecursion (λ y. test y ≡ false) xs
    by_test true is h g = absurd cc
    by_test false is h g = (is, g h)

fresh_auth : (b : Book) (rs : List Ruled) (p : Payment) → Given b.payer (b.settings.serial + count_paid rs) p → same_auth p.auth (next_auth b rs) ≡ false
fresh_auth b rs p g =
    false_from_ne_true (same_auth p.auth (next_auth b rs)) (λ t.
    let e : p.auth.serial ≡ next_serial b rs = ap (λ (a : Auth). a.serial) (auth_same p.auth (next_auth b rs) t) in
    omega (arith, e, g.below))

other_fill : (c : Claim) (p : Payment) → same_fill c.fill p.claim.fill ≡ false → p.claim.fill ≡ c.fill → ⊥
other_fill c p f e = both_ways (same_fill c.fill p.claim.fill) f (subst (λ (x : Fill). same_fill c.fill x ≡ true) (sym e) (fill_self c.fill))

ledger_paid : (b : Book) (rs : List Ruled) (id : TxnId) (place : ℕ) (c : Claim) (m : Amounts) → Ledger b.payer b.settings.serial rs → standing_for c.fill rs ≡ None
    → Ledger b.payer b.settings.serial (rs ++ ruled id place (Ok (Bills c)) (Paid (next_auth b rs) c.fill.prescription m) ∷ [])
ledger_paid b rs id place c m l none =
    let x : Ruled = ruled id place (Ok (Bills c)) (Paid (next_auth b rs) c.fill.prescription m) in
    let p : Payment = record { id = id; place = place; claim = c; auth = next_auth b rs; amounts = m; reversed_by = None } in
    let fresh : payment_of (next_auth b rs) rs ≡ None =
    none_found (λ (q : Payment). same_auth q.auth (next_auth b rs)) (payments rs) (all_weaker (Given b.payer (b.settings.serial + count_paid rs)) _ (fresh_auth b rs) (payments rs) l.serials) in
    let found : payment_of (next_auth b rs) (rs ++ x ∷ []) ≡ Some p = payment_of_new rs x (next_auth b rs) fresh ∙ cond-true (same_auth (next_auth b rs) (next_auth b rs)) (Some p) None (auth_self (next_auth b rs)) in
    let others : AllByRecursion (λ (q : Payment). q.claim.fill ≡ p.claim.fill → ⊥) (standing rs) =
    all_weaker _ _ (λ q h. other_fill c q h) (standing rs) (none_passes (λ (q : Payment). same_fill c.fill q.claim.fill) (standing rs) none) in
    ledger_with b.payer b.settings.serial rs x l (record { payment = p; found = found; claim_is = refl; amounts_are = refl }) (found, tt)
    (record { payer_is = refl; below = omega (arith, count_append rs x) }, tt)
    (no_fill_twice_more (filter is_standing (map (mark x) (payments rs))) p (no_fill_twice_marked x (payments rs) l.fills) (still_others x p (payments rs) others))

-- a ruling in each of its cases

ledger_priced : (b : Book) (rs : List Ruled) (id : TxnId) (place : ℕ) (c : Claim) (o : Option Verdict) → Ledger b.payer b.settings.serial rs → standing_for c.fill rs ≡ None
    → Ledger b.payer b.settings.serial (rs ++ ruled id place (Ok (Bills c)) (priced (next_auth b rs) c o) ∷ [])
ledger_priced b rs id place c None l none = ledger_unpaid b.payer b.settings.serial rs (ruled id place (Ok (Bills c)) (priced (next_auth b rs) c None)) l tt refl
ledger_priced b rs id place c (Some (Rejects codes)) l none = ledger_unpaid b.payer b.settings.serial rs (ruled id place (Ok (Bills c)) (priced (next_auth b rs) c (Some (Rejects codes)))) l tt refl
ledger_priced b rs id place c (Some (Pays m)) l none = ledger_paid b rs id place c m l none

found_standing : (rs : List Ruled) (p : Payment) (fill : Fill) → AllByRecursion (Found rs) (payments rs) → standing_for fill rs ≡ Some p → Found rs p
found_standing rs p fill all e = find_all (Found rs) (λ (q : Payment). same_fill fill q.claim.fill) (standing rs) p (all_filter (Found rs) is_standing (payments rs) all) e

ledger_claim : (ctx : Context) (b : Book) (advice : Advice) (rs : List Ruled) (id : TxnId) (place : ℕ) (c : Claim) (o : Option Payment) → Ledger b.payer b.settings.serial rs → standing_for c.fill rs ≡ o
    → Ledger b.payer b.settings.serial (rs ++ ruled id place (Ok (Bills c)) (ruling_of ctx b advice rs place (judged_claim c o)) ∷ [])
ledger_claim ctx b advice rs id place c None l is = ledger_priced b rs id place c (verdict_of ctx b advice place c) l is
ledger_claim ctx b advice rs id place c (Some p) l is = by_test (same_claim p.claim c)
  where
    by_test : (t : Bool) → Ledger b.payer b.settings.serial (rs ++ ruled id place (Ok (Bills c)) (ruling_of ctx b advice rs place (cond t (Unpriced (Duplicate p.auth c.fill.prescription p.amounts)) (Unpriced (Rejected (Code.DuplicateClaim ∷ []))))) ∷ [])
    by_test true =
        let x : Ruled = ruled id place (Ok (Bills c)) (Duplicate p.auth c.fill.prescription p.amounts) in
        let passes : same_fill c.fill p.claim.fill ≡ true = find_passes (λ (q : Payment). same_fill c.fill q.claim.fill) (standing rs) p is in
        ledger_unpaid b.payer b.settings.serial rs x l
        (record { payment = mark x p; found = payment_of_more rs x p.auth p (found_standing rs p c.fill l.found is); fill_is = sym (fill_same c.fill p.claim.fill passes); amounts_are = refl }) refl
    by_test false = ledger_unpaid b.payer b.settings.serial rs (ruled id place (Ok (Bills c)) (Rejected (Code.DuplicateClaim ∷ []))) l tt refl

filter_passes : {A : Type 0} (test : A → Bool) (xs : List A) → AllByRecursion (λ x. test x ≡ true) (filter test xs)
filter_passes test [] = tt
filter_passes test (x ∷ xs) = by_test (test x) refl (filter_passes test xs)
  where
    by_test : (b : Bool) → test x ≡ b → AllByRecursion (λ y. test y ≡ true) (filter test xs) → AllByRecursion (λ y. test y ≡ true) (cond b (x ∷ filter test xs) (filter test xs))
    by_test true is h = (is, h)
    by_test false is h = h

-- a payment is taken back, or stays as it is
ledger_taken : (b : Book) (rs : List Ruled) (id : TxnId) (place : ℕ) (v : Reversal) (p : Payment) (o : Option Consent) → Ledger b.payer b.settings.serial rs → payment_to_reverse v rs ≡ Some p
    → Ledger b.payer b.settings.serial (rs ++ ruled id place (Ok (Reverses v)) (taken_back p.auth v o) ∷ [])
ledger_taken b rs id place v p None l is = ledger_unpaid b.payer b.settings.serial rs (ruled id place (Ok (Reverses v)) (Rejected (Code.ReversalNotProcessed ∷ []))) l tt refl
ledger_taken b rs id place v p (Some Allows) l is =
    let x : Ruled = ruled id place (Ok (Reverses v)) (Reversed p.auth v.prescription) in
    let test : Payment → Bool = λ (q : Payment). is_for v q.claim in
    let found : Found rs p = only_all (Found rs) (filter test (standing rs)) p (all_filter (Found rs) test (standing rs) (all_filter (Found rs) is_standing (payments rs) l.found)) is in
    let passes : is_for v p.claim ≡ true = only_all (λ (q : Payment). test q ≡ true) (filter test (standing rs)) p (filter_passes test (standing rs)) is in
    ledger_unpaid b.payer b.settings.serial rs x l (record { payment = mark x p; found = payment_of_more rs x p.auth p found; for_it = passes; reversed = reversed_by_mark x p.auth p.reversed_by (auth_self p.auth) }) refl
ledger_taken b rs id place v p (Some (Denies codes)) l is = ledger_unpaid b.payer b.settings.serial rs (ruled id place (Ok (Reverses v)) (Rejected codes)) l tt refl

ledger_reversal : (ctx : Context) (b : Book) (advice : Advice) (rs : List Ruled) (id : TxnId) (place : ℕ) (v : Reversal) (o : Option Payment) → Ledger b.payer b.settings.serial rs → payment_to_reverse v rs ≡ o
    → Ledger b.payer b.settings.serial (rs ++ ruled id place (Ok (Reverses v)) (ruling_of ctx b advice rs place (judged_reversal v o)) ∷ [])
ledger_reversal ctx b advice rs id place v None l is = ledger_unpaid b.payer b.settings.serial rs (ruled id place (Ok (Reverses v)) (Rejected (Code.ReversalNotProcessed ∷ []))) l tt refl
ledger_reversal ctx b advice rs id place v (Some p) l is = ledger_taken b rs id place v p (consent_of b advice place v) l is

-- whatever is asked, a ledger goes on
pub ledger_more : (ctx : Context) (b : Book) (advice : Advice) (rs : List Ruled) (id : TxnId) (place : ℕ) (order : Result Order (List Code)) → Ledger b.payer b.settings.serial rs
    → Ledger b.payer b.settings.serial (rs ++ ruled id place order (ruling ctx b advice rs place order) ∷ [])
unfolding ruling judged
ledger_more ctx b advice rs id place (Err codes) l = ledger_unpaid b.payer b.settings.serial rs (ruled id place (Err codes) (Rejected codes)) l tt refl
ledger_more ctx b advice rs id place (Ok (Bills c)) l = ledger_claim ctx b advice rs id place c (standing_for c.fill rs) l refl
ledger_more ctx b advice rs id place (Ok (Reverses v)) l = ledger_reversal ctx b advice rs id place v (payment_to_reverse v rs) l refl

ledger_groups : (ctx : Context) (b : Book) (advice : Advice) (rs : List Ruled) (id : TxnId) (place : ℕ) (orders : List (Result Order (List Code))) → Ledger b.payer b.settings.serial rs
    → Ledger b.payer b.settings.serial (rs ++ ruled_from id place orders (rulings_from ctx b advice rs id place orders))
ledger_groups ctx b advice rs id place [] l = subst (Ledger b.payer b.settings.serial) (sym (append-nil rs)) l
ledger_groups ctx b advice rs id place (order ∷ orders) l =
    let x : Ruled = ruled id place order (ruling ctx b advice rs place order) in
    let next = ledger_groups ctx b advice (rs ++ x ∷ []) id (place + 1) orders (ledger_more ctx b advice rs id place order l) in
    subst (Ledger b.payer b.settings.serial) (append_assoc rs (x ∷ []) (ruled_from id (place + 1) orders (rulings_from ctx b advice (rs ++ x ∷ []) id (place + 1) orders))) next

pub ruled_rows_more : (ctx : Context) (rows : List Row) (row : Row) → ruled_rows ctx (rows ++ row ∷ []) ≡ ruled_rows ctx rows ++ ruled_row ctx row
ruled_rows_more ctx [] row = append-nil (ruled_row ctx row)
ruled_rows_more ctx (r ∷ rows) row =
    ap (λ (xs : List Ruled). ruled_row ctx r ++ xs) (ruled_rows_more ctx rows row) ∙ sym (append_assoc (ruled_row ctx r) (ruled_rows ctx rows) (ruled_row ctx row))

-- a new row keeps the ledger
pub ledger_row : (ctx : Context) (b : Book) (advice : Advice) (id : TxnId) (request : List ℕ) → Ledger b.payer b.settings.serial (ruled_rows ctx b.rows)
    → Ledger b.payer b.settings.serial (ruled_rows ctx (b.rows ++ Rattle.claim_model.specs.Book.new_row ctx b advice id request ∷ []))
ledger_row ctx b advice id request l =
    subst (Ledger b.payer b.settings.serial) (sym (ruled_rows_more ctx b.rows (Rattle.claim_model.specs.Book.new_row ctx b advice id request)))
    (ledger_groups ctx b advice (ruled_rows ctx b.rows) id 1 (ctx.orders request) l)
