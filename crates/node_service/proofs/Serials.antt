-- The payments of a book have serials one after another, so one is found by its place.
use Rattle.std.proofs.Common.{◌≡◌, ◌⊎◌, inl, inr, ℕ, zero, suc, ◌+◌, ◌≤◌, ◌<◌, Bool, true, false, ◌==◌, cond, List, [], ◌∷◌, ◌++◌, map, length, Option, Some, None, Result, Ok, Err, slice_get, refl, sym, ap, ◌∙◌, subst, arith, append_assoc, eq-eqb}
use Rattle.std.specs.Prelude.{find, count_by, ⊤, nat_le}
use Rattle.std.specs.List.{flat_map, AllByRecursion, list_all}
use Rattle.std.specs.Option.{option_map, option_to_list}
use Rattle.std.proofs.lemmas.Bool.{cond-true, cond-false, and_from, and_right, and_parts, ne_eqb}
use Rattle.std.proofs.lemmas.Bool.Decides.{nat_tests}
use Rattle.std.proofs.lemmas.Grind.{flat_map-append}
use Rattle.std.proofs.lemmas.List.{map-append}
use Rattle.std.proofs.lemmas.List.Sums.{sum_by-append}
use Rattle.std.proofs.lemmas.Option.{same_Some, slice_get-map}
use Rattle.claim_profile.specs.Authorization.{largest_serial}
use Rattle.claim_model.specs.Words.{TxnId, Auth, Amounts, Claim, Reversal, Order, Bills, Reverses, Code, Ruling, Paid, Duplicate, Reversed, Rejected}
use Rattle.claim_model.specs.Ruled.{Ruled, ruled, ruled_from}
use Rattle.claim_model.specs.Payments.{Payment, same_auth, payment_by, payment_at, payments, payment_of}
use Rattle.claim_model.specs.Rows.{Row, Book, ruled_row, ruled_rows}
use Rattle.claim_model.specs.Context.{Context}
use Rattle.claim_model.specs.Judgement.{Judged, Unpriced, ToPrice, judged, judged_claim, judged_reversal, standing_for, payment_to_reverse, same_claim, is_paid, next_auth}
use Rattle.claim_model.specs.Book.{serial_fits, last_serial}
use Rattle.payer_book.specs.declared.book.PaymentView.{PaymentView}
use Rattle.payer_book.specs.Books.{reading}
use Rattle.payer_book.specs.Views.{payment_view, payment_in}
use Rattle.payer_book.specs.Added.{row_saying, KeptRow, kept_row, with_row, without_rows, added, added_all}
use Rattle.payer_book.specs.Following.{FollowsRules, AllFollow, RowStands}
use Rattle.node_service.specs.declared.payments.NodePayment.{NodePayment}
use Rattle.node_service.specs.Payments.{booked_payment, ruling_payment, row_payments, book_payments}

abbrev pub auth_at : ℕ → ℕ → Auth
auth_at payer serial = record { payer = payer; serial = serial }

-- so many authorizations of a payer, from a serial on
abbrev pub serials : ℕ → ℕ → ℕ → List Auth
serials payer first zero = []
serials payer first (suc n) = auth_at payer first ∷ serials payer (first + 1) n

-- the authorization that a ruling gives
abbrev auth_by : Ruling → List Auth
auth_by (Paid auth n m) = auth ∷ []
auth_by (Duplicate auth n m) = []
auth_by (Reversed auth n) = []
auth_by (Rejected codes) = []

-- that of the payment which a ruling makes
abbrev paid_by : Result Order (List Code) → Ruling → List Auth
paid_by (Ok (Bills c)) (Paid auth n m) = auth ∷ []
paid_by (Ok (Bills c)) (Duplicate auth n m) = []
paid_by (Ok (Bills c)) (Reversed auth n) = []
paid_by (Ok (Bills c)) (Rejected codes) = []
paid_by (Ok (Reverses v)) r = []
paid_by (Err codes) r = []

abbrev paid_of : Ruled → List Auth
paid_of r = paid_by r.order r.ruling

abbrev count_paid : List Ruled → ℕ
count_paid rs = count_by (λ (r : Ruled). is_paid r.ruling) rs

abbrev Fits : Auth → Type 0
Fits a = a.serial ≤ largest_serial

count_of : (rs more : List Ruled) → count_paid (rs ++ more) ≡ count_paid rs + count_paid more
count_of rs more = sum_by-append (λ (r : Ruled). cond (is_paid r.ruling) 1 0) rs more

-- some rulings give serials one after another, and so do the payments that they make
record Good (payer first : ℕ) (rs : List Ruled) (rulings : List Ruling) : Type 0 where
  count : ℕ
  paid : count_paid rs ≡ count
  own : flat_map auth_by rulings ≡ serials payer first count
  same : flat_map paid_of rs ≡ serials payer first count
  fit : AllByRecursion Fits (flat_map auth_by rulings)

-- what one ruling gives: nothing, or the next serial
abbrev Step : ℕ → ℕ → Result Order (List Code) → Ruling → Type 0
Step payer n order r =
    ((auth_by r ≡ []) × ((paid_by order r ≡ []) × (is_paid r ≡ false)))
    ⊎ ((auth_by r ≡ auth_at payer n ∷ []) × ((paid_by order r ≡ auth_at payer n ∷ []) × (is_paid r ≡ true)))

claim_step : (b : Book) (before : List Ruled) (n : ℕ) (c : Claim) (r : Ruling) (o : Option Payment) → b.settings.serial + count_paid before ≡ n → FollowsRules b before (judged_claim c o) r → Step b.payer n (Ok (Bills c)) r
claim_step b before n c r None is (inl f) = subst (λ (x : Ruling). Step b.payer n (Ok (Bills c)) x) (sym f.2) (inl (refl, (refl, refl)))
claim_step b before n c r None is (inr f) =
    let same : next_auth b before ≡ auth_at b.payer n = ap (auth_at b.payer) is in
    subst (λ (x : Ruling). Step b.payer n (Ok (Bills c)) x) (sym f.2)
    (inr (ap (λ (a : Auth). a ∷ []) same, (ap (λ (a : Auth). a ∷ []) same, refl)))
claim_step b before n c r (Some p) is f = by_test (same_claim p.claim c) f
  where
    by_test : (t : Bool) → FollowsRules b before (cond t (Unpriced (Duplicate p.auth c.fill.prescription p.amounts)) (Unpriced (Rejected (Code.DuplicateClaim ∷ [])))) r → Step b.payer n (Ok (Bills c)) r
    by_test true g = subst (λ (x : Ruling). Step b.payer n (Ok (Bills c)) x) (sym g) (inl (refl, (refl, refl)))
    by_test false g = subst (λ (x : Ruling). Step b.payer n (Ok (Bills c)) x) (sym g) (inl (refl, (refl, refl)))

reversal_step : (b : Book) (before : List Ruled) (n : ℕ) (v : Reversal) (r : Ruling) (o : Option Payment) → FollowsRules b before (judged_reversal v o) r → Step b.payer n (Ok (Reverses v)) r
reversal_step b before n v r None f = subst (λ (x : Ruling). Step b.payer n (Ok (Reverses v)) x) (sym f) (inl (refl, (refl, refl)))
reversal_step b before n v r (Some p) (inl e) = subst (λ (x : Ruling). Step b.payer n (Ok (Reverses v)) x) (sym e.2) (inl (refl, (refl, refl)))
reversal_step b before n v r (Some p) (inr e) = subst (λ (x : Ruling). Step b.payer n (Ok (Reverses v)) x) (sym e) (inl (refl, (refl, refl)))

step_of : (b : Book) (before : List Ruled) (n : ℕ) (order : Result Order (List Code)) (r : Ruling) → b.settings.serial + count_paid before ≡ n → FollowsRules b before (judged before order) r → Step b.payer n order r
unfolding judged
step_of b before n (Err codes) r is f = subst (λ (x : Ruling). Step b.payer n (Err codes) x) (sym f) (inl (refl, (refl, refl)))
step_of b before n (Ok (Bills c)) r is f = claim_step b before n c r (standing_for c.fill before) is f
step_of b before n (Ok (Reverses v)) r is f = reversal_step b before n v r (payment_to_reverse v before) f

-- a ruling in front of others
fits_by : (a : Auth) (r : Ruling) → auth_by r ≡ a ∷ [] → serial_fits r ≡ true → Fits a
fits_by a (Paid auth n m) is fits =
    let same : auth ≡ a = cc in
    subst Fits same (grind (arith, nat_tests))
fits_by a (Duplicate auth n m) is fits = absurd cc
fits_by a (Reversed auth n) is fits = absurd cc
fits_by a (Rejected codes) is fits = absurd cc

count_one : (x : Ruled) (n : ℕ) → cond (is_paid x.ruling) 1 0 ≡ n → count_paid (x ∷ []) ≡ n
count_one x n is = let none : 0 + n ≡ n = omega arith in ap (λ (k : ℕ). 0 + k) is ∙ none

count_first : (x : Ruled) (more : List Ruled) (n : ℕ) → cond (is_paid x.ruling) 1 0 ≡ n → count_paid (x ∷ more) ≡ n + count_paid more
count_first x more n is =
    let all : count_paid (x ∷ more) ≡ count_paid (x ∷ []) + count_paid more = count_of (x ∷ []) more in
    omega (arith, all, count_one x n is)

in_front : (payer n : ℕ) (x : Ruled) (more : List Ruled) (rulings : List Ruling) → Step payer n x.order x.ruling → serial_fits x.ruling ≡ true → (count : ℕ) → count ≡ n + count_paid (x ∷ []) → Good payer count more rulings → Good payer n (x ∷ more) (x.ruling ∷ rulings)
in_front payer n x more rulings (inl s) fits count is g =
    let none : cond (is_paid x.ruling) 1 0 ≡ 0 = ap (λ (t : Bool). cond t 1 0) s.1.1 in
    let own : count_paid (x ∷ []) ≡ 0 = count_one x 0 none in
    let same : count ≡ n = omega (arith, is, own) in
    record {
      count = g.count;
      paid = omega (arith, count_first x more 0 none, g.paid);
      own = ap (λ (auths : List Auth). auths ++ flat_map auth_by rulings) s.0 ∙ (g.own ∙ ap (λ (k : ℕ). serials payer k g.count) same);
      same = ap (λ (auths : List Auth). auths ++ flat_map paid_of more) s.1.0 ∙ (g.same ∙ ap (λ (k : ℕ). serials payer k g.count) same);
      fit = subst (λ (auths : List Auth). AllByRecursion Fits (auths ++ flat_map auth_by rulings)) (sym s.0) g.fit;
    }
in_front payer n x more rulings (inr s) fits count is g =
    let one : cond (is_paid x.ruling) 1 0 ≡ 1 = ap (λ (t : Bool). cond t 1 0) s.1.1 in
    let own : count_paid (x ∷ []) ≡ 1 = count_one x 1 one in
    let same : count ≡ n + 1 = omega (arith, is, own) in
    record {
      count = suc g.count;
      paid = omega (arith, count_first x more 1 one, g.paid);
      own = ap (λ (auths : List Auth). auths ++ flat_map auth_by rulings) s.0 ∙ ap (λ (auths : List Auth). auth_at payer n ∷ auths) (g.own ∙ ap (λ (k : ℕ). serials payer k g.count) same);
      same = ap (λ (auths : List Auth). auths ++ flat_map paid_of more) s.1.0 ∙ ap (λ (auths : List Auth). auth_at payer n ∷ auths) (g.same ∙ ap (λ (k : ℕ). serials payer k g.count) same);
      fit = subst (λ (auths : List Auth). AllByRecursion Fits (auths ++ flat_map auth_by rulings)) (sym s.0) (fits_by (auth_at payer n) x.ruling s.0 fits, g.fit);
    }

-- the rulings of one request
row_good : (b : Book) (before : List Ruled) (id : TxnId) (place : ℕ) (orders : List (Result Order (List Code))) (rulings : List Ruling) (n : ℕ) → b.settings.serial + count_paid before ≡ n → list_all serial_fits rulings ≡ true
    → AllFollow b before id place orders rulings → Good b.payer n (ruled_from id place orders rulings) rulings
row_good b before id place [] [] n is fit f = record { count = 0; paid = refl; own = refl; same = refl; fit = tt }
row_good b before id place [] (r ∷ rulings) n is fit f = absurd f
row_good b before id place (order ∷ orders) [] n is fit f = absurd f
row_good b before id place (order ∷ orders) (r ∷ rulings) n is fit f =
    let x : Ruled = ruled id place order r in
    let both = and_parts (serial_fits r) (list_all serial_fits rulings) fit in
    in_front b.payer n x (ruled_from id (place + 1) orders rulings) rulings (step_of b before n order r is f.0) both.0 (n + count_paid (x ∷ [])) refl
    (row_good b (before ++ x ∷ []) id (place + 1) orders rulings (n + count_paid (x ∷ [])) (omega (arith, is, count_of before (x ∷ []))) both.1 f.1)

serials_more : (payer first n m : ℕ) → serials payer first (n + m) ≡ serials payer first n ++ serials payer (first + n) m
serials_more payer first zero m =
    let none : 0 + m ≡ m = omega arith in
    let here : first + 0 ≡ first = omega arith in
    ap (serials payer first) none ∙ sym (ap (λ (k : ℕ). serials payer k m) here)
serials_more payer first (suc n) m =
    let same : first + 1 + n ≡ first + suc n = omega arith in
    let more : suc n + m ≡ suc (n + m) = omega arith in
    ap (serials payer first) more
    ∙ ap (λ (auths : List Auth). auth_at payer first ∷ auths) (serials_more payer (first + 1) n m ∙ ap (λ (k : ℕ). serials payer (first + 1) n ++ serials payer k m) same)

all_of_both : (xs ys : List Auth) → AllByRecursion Fits xs → AllByRecursion Fits ys → AllByRecursion Fits (xs ++ ys)
all_of_both [] ys a b = b
all_of_both (x ∷ xs) ys a b = (a.0, all_of_both xs ys a.1 b)

good_more : (payer first : ℕ) (rs : List Ruled) (rulings : List Ruling) (more : List Ruled) (others : List Ruling) (g : Good payer first rs rulings) → Good payer (first + count_paid rs) more others → Good payer first (rs ++ more) (rulings ++ others)
good_more payer first rs rulings more others g h =
    let next : first + count_paid rs ≡ first + g.count = omega (arith, g.paid) in
    let joined = serials_more payer first g.count h.count in
    record {
      count = g.count + h.count;
      paid = count_of rs more ∙ omega (arith, g.paid, h.paid);
      own = flat_map-append auth_by rulings others ∙ (ap (λ (auths : List Auth). auths ++ flat_map auth_by others) g.own
          ∙ (ap (λ (auths : List Auth). serials payer first g.count ++ auths) (h.own ∙ ap (λ (k : ℕ). serials payer k h.count) next) ∙ sym joined));
      same = flat_map-append paid_of rs more ∙ (ap (λ (auths : List Auth). auths ++ flat_map paid_of more) g.same
          ∙ (ap (λ (auths : List Auth). serials payer first g.count ++ auths) (h.same ∙ ap (λ (k : ℕ). serials payer k h.count) next) ∙ sym joined));
      fit = subst (AllByRecursion Fits) (sym (flat_map-append auth_by rulings others)) (all_of_both (flat_map auth_by rulings) (flat_map auth_by others) g.fit h.fit);
    }

abbrev rulings_of : Row → List Ruling
rulings_of row = row.rulings

abbrev IsGood : Book → Type 0
IsGood b = Good b.payer b.settings.serial (ruled_rows reading b.rows) (flat_map rulings_of b.rows)

-- what payer_book says of rows that are added
abbrev pub RowsFollow : Type 0
RowsFollow = (b : Book) (id : TxnId) (request answer : List ℕ) (after : Book) → added b id request answer ≡ Some after → RowStands b id request answer after

one_more : (b : Book) (id : TxnId) (request answer : List ℕ) (after : Book) → RowStands b id request answer after → IsGood b → IsGood after
one_more b id request answer after s g =
    let row : Row = row_saying b id request s.rulings answer in
    let own : Good b.payer (b.settings.serial + count_paid (ruled_rows reading b.rows)) (ruled_row reading row) s.rulings =
    row_good b (ruled_rows reading b.rows) id 1 (reading.orders request) s.rulings (b.settings.serial + count_paid (ruled_rows reading b.rows)) refl s.fit s.follow in
    let all = good_more b.payer b.settings.serial (ruled_rows reading b.rows) (flat_map rulings_of b.rows) (ruled_row reading row) s.rulings g own in
    let rs : ruled_rows reading b.rows ++ ruled_row reading row ≡ ruled_rows reading (b.rows ++ row ∷ []) =
    sym (flat_map-append (ruled_row reading) b.rows (row ∷ []) ∙ ap (λ (xs : List Ruled). ruled_rows reading b.rows ++ xs) (none_behind (ruled_row reading row))) in
    let xs : flat_map rulings_of b.rows ++ s.rulings ≡ flat_map rulings_of (b.rows ++ row ∷ []) =
    sym (flat_map-append rulings_of b.rows (row ∷ []) ∙ ap (λ (ys : List Ruling). flat_map rulings_of b.rows ++ ys) (none_behind s.rulings)) in
    subst IsGood (sym s.book) (subst (λ (ys : List Ruling). Good b.payer b.settings.serial (ruled_rows reading (b.rows ++ row ∷ [])) ys) xs
    (subst (λ (ys : List Ruled). Good b.payer b.settings.serial ys (flat_map rulings_of b.rows ++ s.rulings)) rs all))
  where
    none_behind : {A : Type 0} (ys : List A) → ys ++ [] ≡ ys
    none_behind ys = Rattle.std.proofs.lemmas.List.append-nil ys

all_good : RowsFollow → (b : Book) (rows : List KeptRow) (after : Book) → added_all (Some b) rows ≡ Some after → IsGood b → IsGood after
all_good only b [] after is g = subst IsGood (same_Some b after is) g
all_good only b (row ∷ rows) after is g = by_added (added b row.id row.request row.answer) refl is (λ mid f h. all_good only mid rows after f h)
  where
    by_added : (o : Option Book) → added b row.id row.request row.answer ≡ o → added_all o rows ≡ Some after → ((mid : Book) → added_all (Some mid) rows ≡ Some after → IsGood mid → IsGood after) → IsGood after
    by_added None e f more = absurd cc
    by_added (Some mid) e f more = more mid f (one_more b row.id row.request row.answer mid (only b row.id row.request row.answer mid e) g)

abbrev pub MadeByRows : Book → Type 0
MadeByRows b = added_all (Some (without_rows b)) (map kept_row b.rows) ≡ Some b

book_good : RowsFollow → (b : Book) → MadeByRows b → IsGood b
book_good only b made = all_good only (without_rows b) (map kept_row b.rows) b made (record { count = 0; paid = refl; own = refl; same = refl; fit = tt })

-- the payments that rulings make, by their authorizations
auth_of : Payment → Auth
auth_of p = p.auth

by_order : (r : Ruled) (later : List Ruled) (order : Result Order (List Code)) (given : Ruling) → map (λ (p : Payment). p.auth) (payment_by r later order given) ≡ paid_by order given
by_order r later (Ok (Bills c)) (Paid auth n m) = refl
by_order r later (Ok (Bills c)) (Duplicate auth n m) = refl
by_order r later (Ok (Bills c)) (Reversed auth n) = refl
by_order r later (Ok (Bills c)) (Rejected codes) = refl
by_order r later (Ok (Reverses v)) given = refl
by_order r later (Err codes) given = refl

auths_paid : (rs : List Ruled) → map (λ (p : Payment). p.auth) (payments rs) ≡ flat_map paid_of rs
auths_paid [] = refl
auths_paid (r ∷ later) =
    map-append (λ (p : Payment). p.auth) (payment_at r later) (payments later)
    ∙ (ap (λ (auths : List Auth). auths ++ map (λ (p : Payment). p.auth) (payments later)) (by_order r later r.order r.ruling)
    ∙ ap (λ (auths : List Auth). paid_of r ++ auths) (auths_paid later))

-- payments with such serials
abbrev AreAt : ℕ → ℕ → ℕ → List Payment → Type 0
AreAt payer first n ps = map (λ (p : Payment). p.auth) ps ≡ serials payer first n

first_of : (payer first n : ℕ) (p : Payment) (ps : List Payment) → AreAt payer first n (p ∷ ps) → (m : ℕ) × ((n ≡ suc m) × ((p.auth ≡ auth_at payer first) × AreAt payer (first + 1) m ps))
first_of payer first zero p ps is = absurd cc
first_of payer first (suc m) p ps is =
    let head : p.auth ≡ auth_at payer first = cc in
    let tail : map (λ (p : Payment). p.auth) ps ≡ serials payer (first + 1) m = cc in
    (m, (refl, (head, tail)))

-- one is found by its serial, at its place
found_at : (payer first n : ℕ) (ps : List Payment) (k : ℕ) → AreAt payer first n ps → find (λ (p : Payment). same_auth p.auth (auth_at payer (first + k))) ps ≡ slice_get ps k
found_at payer first n [] k is = refl
found_at payer first n (p ∷ ps) zero is =
    let at = first_of payer first n p ps is in
    let s : p.auth.serial ≡ first + 0 = ap (λ (a : Auth). a.serial) at.1.1.0 ∙ omega arith in
    cond-true (same_auth p.auth (auth_at payer (first + 0))) (Some p) (find (λ (q : Payment). same_auth q.auth (auth_at payer (first + 0))) ps)
    (and_from (p.auth.payer == payer) (p.auth.serial == first + 0) (eq-eqb p.auth.payer payer (ap (λ (a : Auth). a.payer) at.1.1.0)) (eq-eqb p.auth.serial (first + 0) s))
found_at payer first n (p ∷ ps) (suc k) is =
    let at = first_of payer first n p ps is in
    let s : p.auth.serial ≡ first = ap (λ (a : Auth). a.serial) at.1.1.0 in
    let same : first + 1 + k ≡ first + suc k = omega arith in
    cond-false (same_auth p.auth (auth_at payer (first + suc k))) (Some p) (find (λ (q : Payment). same_auth q.auth (auth_at payer (first + suc k))) ps)
    (and_right (p.auth.payer == payer) (p.auth.serial == first + suc k) (ne_eqb p.auth.serial (first + suc k) (λ e. omega (arith, e, s))))
    ∙ (ap (λ (s : ℕ). find (λ (q : Payment). same_auth q.auth (auth_at payer s)) ps) (sym same) ∙ found_at payer (first + 1) at.0 ps k at.1.1.1)

-- each has its authorization, and that is one which there is
auth_there : (payer first n : ℕ) (ps : List Payment) (k : ℕ) (p : Payment) → AreAt payer first n ps → slice_get ps k ≡ Some p → p.auth ≡ auth_at payer (first + k)
auth_there payer first n [] k p is e = absurd cc
auth_there payer first n (q ∷ ps) zero p is e =
    let same : q ≡ p = same_Some q p e in
    let here : first ≡ first + 0 = omega arith in
    ap (λ (x : Payment). x.auth) (sym same) ∙ ((first_of payer first n q ps is).1.1.0 ∙ ap (auth_at payer) here)
auth_there payer first n (q ∷ ps) (suc k) p is e =
    let at = first_of payer first n q ps is in
    let same : first + 1 + k ≡ first + suc k = omega arith in
    auth_there payer (first + 1) at.0 ps k p at.1.1.1 e ∙ ap (auth_at payer) same

fit_there : (ps : List Payment) (k : ℕ) (p : Payment) → AllByRecursion Fits (map (λ (p : Payment). p.auth) ps) → slice_get ps k ≡ Some p → Fits p.auth
fit_there [] k p all e = absurd cc
fit_there (q ∷ ps) zero p all e = subst (λ (x : Payment). Fits x.auth) (same_Some q p e) all.0
fit_there (q ∷ ps) (suc k) p all e = fit_there ps k p all.1 e

over_not : (s n : ℕ) → s ≤ largest_serial → s ≡ n → largest_serial < n → ⊥
over_not s n le e lt = omega (arith, e)

-- the payments of a node are those that are found under each serial
module _ (ctx : Context) (b : Book) where
  abbrev look : Auth → List NodePayment
  look a = option_to_list (option_map (booked_payment a) (payment_in ctx b a))

  abbrev booked : Payment → NodePayment
  booked p = booked_payment p.auth (payment_view p)

  of_ruling : (r : Ruling) → ruling_payment ctx b r ≡ flat_map look (auth_by r)
  of_ruling (Paid auth n m) = sym (Rattle.std.proofs.lemmas.List.append-nil (look auth))
  of_ruling (Duplicate auth n m) = refl
  of_ruling (Reversed auth n) = refl
  of_ruling (Rejected codes) = refl

  of_rulings : (rulings : List Ruling) → flat_map (ruling_payment ctx b) rulings ≡ flat_map look (flat_map auth_by rulings)
  of_rulings [] = refl
  of_rulings (r ∷ rulings) =
      ap (λ (xs : List NodePayment). xs ++ flat_map (ruling_payment ctx b) rulings) (of_ruling r)
      ∙ (ap (λ (xs : List NodePayment). flat_map look (auth_by r) ++ xs) (of_rulings rulings) ∙ sym (flat_map-append look (auth_by r) (flat_map auth_by rulings)))

  of_rows : (rows : List Row) → flat_map (row_payments ctx b) rows ≡ flat_map look (flat_map auth_by (flat_map rulings_of rows))
  of_rows [] = refl
  of_rows (row ∷ rows) =
      ap (λ (xs : List NodePayment). xs ++ flat_map (row_payments ctx b) rows) (of_rulings row.rulings)
      ∙ (ap (λ (xs : List NodePayment). flat_map look (flat_map auth_by row.rulings) ++ xs) (of_rows rows)
      ∙ (sym (flat_map-append look (flat_map auth_by row.rulings) (flat_map auth_by (flat_map rulings_of rows)))
      ∙ ap (flat_map look) (sym (flat_map-append auth_by row.rulings (flat_map rulings_of rows)))))

  looked : (payer first n : ℕ) (ps : List Payment) → AreAt payer first n ps → ((k : ℕ) → payment_in ctx b (auth_at payer (first + k)) ≡ option_map payment_view (slice_get ps k))
      → flat_map look (serials payer first n) ≡ map booked ps
  looked payer first zero [] is each = refl
  looked payer first (suc n) [] is each = absurd cc
  looked payer first zero (p ∷ ps) is each = absurd cc
  looked payer first (suc n) (p ∷ ps) is each =
      let at = first_of payer first (suc n) p ps is in
      let here : first + 0 ≡ first = omega arith in
      let one : payment_in ctx b (auth_at payer first) ≡ Some (payment_view p) = ap (λ (s : ℕ). payment_in ctx b (auth_at payer s)) (sym here) ∙ each 0 in
      let rest : AreAt payer (first + 1) n ps = cc in
      let shifted : (k : ℕ) → payment_in ctx b (auth_at payer (first + 1 + k)) ≡ option_map payment_view (slice_get ps k) =
      λ k. let same : first + 1 + k ≡ first + suc k = omega arith in ap (λ (s : ℕ). payment_in ctx b (auth_at payer s)) same ∙ each (suc k) in
      ap (λ (o : Option PaymentView). option_to_list (option_map (booked_payment (auth_at payer first)) o) ++ flat_map look (serials payer (first + 1) n)) one
      ∙ (ap (λ (a : Auth). booked_payment a (payment_view p) ∷ flat_map look (serials payer (first + 1) n)) (sym at.1.1.0)
      ∙ ap (λ (xs : List NodePayment). booked p ∷ xs) (looked payer (first + 1) n ps rest shifted))

  told_by : (payer first n : ℕ) (ps : List Payment) (k : ℕ) → AreAt payer first n ps → (o : Option Payment) → slice_get ps k ≡ o → option_map (booked_payment (auth_at payer (first + k))) (option_map payment_view o) ≡ option_map booked o
  told_by payer first n ps k is None e = refl
  told_by payer first n ps k is (Some p) e = ap (λ (a : Auth). Some (booked_payment a (payment_view p))) (sym (auth_there payer first n ps k p is e))

  module _ (only : RowsFollow) (made : MadeByRows b) (orders : ruled_rows ctx b.rows ≡ ruled_rows reading b.rows) where
    good : IsGood b
    good = book_good only b made

    abbrev all : List Payment
    all = payments (ruled_rows reading b.rows)

    are : AreAt b.payer b.settings.serial good.count all
    are = auths_paid (ruled_rows reading b.rows) ∙ good.same

    each : (k : ℕ) → payment_in ctx b (auth_at b.payer (b.settings.serial + k)) ≡ option_map payment_view (slice_get all k)
    each k = ap (λ (rs : List Ruled). option_map payment_view (payment_of (auth_at b.payer (b.settings.serial + k)) rs)) orders ∙ ap (option_map payment_view) (found_at b.payer b.settings.serial good.count all k are)

    whole : book_payments ctx b ≡ map booked all
    whole = of_rows b.rows ∙ (ap (flat_map look) good.own ∙ looked b.payer b.settings.serial good.count all are each)

    -- the payment at a place is that of its serial
    pub at_place : (k : ℕ) → option_map (booked_payment (auth_at b.payer (b.settings.serial + k))) (payment_in ctx b (auth_at b.payer (b.settings.serial + k))) ≡ slice_get (book_payments ctx b) k
    at_place k =
        ap (option_map (booked_payment (auth_at b.payer (b.settings.serial + k)))) (each k)
        ∙ (told_by b.payer b.settings.serial good.count all k are (slice_get all k) refl
        ∙ (sym (slice_get-map booked all k) ∙ ap (λ (xs : List NodePayment). slice_get xs k) (sym whole)))

    -- behind the last serial there is none
    pub none_past : (k : ℕ) → largest_serial < b.settings.serial + k → slice_get (book_payments ctx b) k ≡ None
    none_past k over = ap (λ (xs : List NodePayment). slice_get xs k) whole ∙ (slice_get-map booked all k ∙ by_found (slice_get all k) refl)
      where
        fits : AllByRecursion Fits (map (λ (p : Payment). p.auth) all)
        fits = subst (AllByRecursion Fits) (good.own ∙ sym are) good.fit

        by_found : (o : Option Payment) → slice_get all k ≡ o → option_map booked o ≡ None
        by_found None e = refl
        by_found (Some p) e =
            let f : p.auth.serial ≤ largest_serial = fit_there all k p fits e in
            let s : p.auth.serial ≡ b.settings.serial + k = ap (λ (a : Auth). a.serial) (auth_there b.payer b.settings.serial good.count all k p are e) in
            absurd (over_not p.auth.serial (b.settings.serial + k) f s over)
