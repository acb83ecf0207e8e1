-- Where payments were ruled, as the list of rulings grows, and by their serial numbers.
use Rattle.std.proofs.Common.{◌≡◌, ℕ, zero, suc, ◌+◌, Bool, true, false, cond, List, [], ◌∷◌, ◌++◌, map, length, Some, None, Result, Ok, Err, slice_get, refl, sym, ap, ◌∙◌, subst, append_assoc, arith, ◌<◌}
use Rattle.std.specs.Prelude.{find, option_map}
use Rattle.std.proofs.lemmas.List.{map-append}
use Rattle.std.proofs.lemmas.Bool.{cond-true, cond-false}
use Rattle.std.proofs.lemmas.Option.{slice_get-map}
use mathlib.Core.Path.{ap₂}
use Rattle.claim_model.specs.Words.{TxnId, Auth, Order, Bills, Reverses, Code, Ruling, Paid, Duplicate, Reversed, Rejected}
use Rattle.claim_model.specs.Ruled.{Ruled, ruled, ruled_from}
use Rattle.claim_model.specs.Payments as model
use Rattle.claim_model.specs.Payments.{same_auth, payment_by, payment_at, payment_of}
use Rattle.claim_model.specs.Rows.{Row, BookSettings, ruled_row, ruled_rows}
use Rattle.claim_model.specs.Book.{carries_more}
use Rattle.payer_book.specs.declared.book.origins.Origin.{Origin}
use Rattle.payer_book.specs.declared.book.payment.Payment.{Payment}
use Rattle.payer_book.specs.declared.ruling.changes.Change.{Change}
use Rattle.payer_book.specs.Ledger.{Ledger, auth_of, has_auth, payment_with, AreNumbered}
use Rattle.payer_book.specs.Changes.{change_by, changes_by}
use Rattle.payer_book.specs.Books.{reading, kept, Keeps}
use Rattle.payer_book.specs.Origins.{origin_of, origins_in, origins_of, origins_by}
use Rattle.payer_book.proofs.Numbering.{numbered, numbered_at, same_parts, other_serial}
use Rattle.claim_model.proofs.Lists.{find_passes, get_exists}
use Rattle.claim_model.proofs.Tests.{auth_same}
use Rattle.payer_book.proofs.Told.{auth_kept}
use Rattle.payer_book.proofs.Entered.{ruled_rows_more}

-- where a payment was ruled does not hang on what came later
same_origin : (r : Ruled) (here there : List Ruled) (order : Result Order (List Code)) (ruling : Ruling) → map origin_of (payment_by r here order ruling) ≡ map origin_of (payment_by r there order ruling)
same_origin r here there (Ok (Bills c)) (Paid auth n m) = refl
same_origin r here there (Ok (Bills c)) (Duplicate auth n m) = refl
same_origin r here there (Ok (Bills c)) (Reversed auth n) = refl
same_origin r here there (Ok (Bills c)) (Rejected codes) = refl
same_origin r here there (Ok (Reverses v)) ruling = refl
same_origin r here there (Err codes) ruling = refl

origins_append : (rs more : List Ruled) → origins_in (rs ++ more) ≡ origins_in rs ++ origins_in more
origins_append [] more = refl
origins_append (r ∷ rs) more =
    map-append origin_of (payment_at r (rs ++ more)) (model.payments (rs ++ more))
    ∙ (ap₂ (λ (xs ys : List Origin). xs ++ ys) (same_origin r (rs ++ more) rs r.order r.ruling) (origins_append rs more)
    ∙ (sym (append_assoc (map origin_of (payment_at r rs)) (origins_in rs) (origins_in more))
    ∙ ap (λ (xs : List Origin). xs ++ origins_in more) (sym (map-append origin_of (payment_at r rs) (model.payments rs)))))

-- those of a request are where its changes pay
first_origin : (id : TxnId) (place : ℕ) (order : Result Order (List Code)) (ruling : Ruling) (later : List Ruled) (changes : List Change) → origins_in later ≡ origins_by id (place + 1) changes
    → map origin_of (payment_by (ruled id place order ruling) later order ruling) ++ origins_in later ≡ origins_by id place (change_by order ruling ∷ changes)
first_origin id place (Ok (Bills c)) (Paid auth n m) later changes rest = ap (λ (xs : List Origin). record { id = id; place = place } ∷ xs) rest
first_origin id place (Ok (Bills c)) (Duplicate auth n m) later changes rest = rest
first_origin id place (Ok (Bills c)) (Reversed auth n) later changes rest = rest
first_origin id place (Ok (Bills c)) (Rejected codes) later changes rest = rest
first_origin id place (Ok (Reverses v)) (Paid auth n m) later changes rest = rest
first_origin id place (Ok (Reverses v)) (Duplicate auth n m) later changes rest = rest
first_origin id place (Ok (Reverses v)) (Reversed auth n) later changes rest = rest
first_origin id place (Ok (Reverses v)) (Rejected codes) later changes rest = rest
first_origin id place (Err codes) (Paid auth n m) later changes rest = rest
first_origin id place (Err codes) (Duplicate auth n m) later changes rest = rest
first_origin id place (Err codes) (Reversed auth n) later changes rest = rest
first_origin id place (Err codes) (Rejected rejects) later changes rest = rest

origins_from : (id : TxnId) (place : ℕ) (orders : List (Result Order (List Code))) (rulings : List Ruling) → origins_in (ruled_from id place orders rulings) ≡ origins_by id place (changes_by orders rulings)
origins_from id place [] rulings = refl
origins_from id place (order ∷ orders) [] = refl
origins_from id place (order ∷ orders) (ruling ∷ rulings) =
    let later = ruled_from id (place + 1) orders rulings in
    map-append origin_of (payment_at (ruled id place order ruling) later) (model.payments later)
    ∙ first_origin id place order ruling later (changes_by orders rulings) (origins_from id (place + 1) orders rulings)

-- a book's, with one row more
pub origins_more : (s : BookSettings) (rows : List Row) (row : Row) → origins_of s (rows ++ row ∷ []) ≡ origins_of s rows ++ origins_by row.id 1 (cond (carries_more s) (changes_by (reading.orders row.request) row.rulings) [])
origins_more s rows row = by_test (carries_more s)
  where
    by_test : (b : Bool) → cond b (origins_in (ruled_rows reading (rows ++ row ∷ []))) [] ≡ cond b (origins_in (ruled_rows reading rows)) [] ++ origins_by row.id 1 (cond b (changes_by (reading.orders row.request) row.rulings) [])
    by_test true =
        ap origins_in (ruled_rows_more rows row)
        ∙ (origins_append (ruled_rows reading rows) (ruled_row reading row)
        ∙ ap (λ (xs : List Origin). origins_in (ruled_rows reading rows) ++ xs) (origins_from row.id 1 (reading.orders row.request) row.rulings))
    by_test false = refl

-- ---- by serial numbers

-- the payment of a serial stands at its place
model_at : (payer n : ℕ) (ps : List model.Payment) (auth : Auth) (k : ℕ) → AreNumbered payer n (map kept ps) → auth ≡ numbered payer (n + k) → find (λ (p : model.Payment). same_auth p.auth auth) ps ≡ slice_get ps k
model_at payer n [] auth k h is = refl
model_at payer n (p ∷ ps) auth zero h is =
    let own : p.auth ≡ numbered payer n = sym (auth_kept p p.reversed_by) ∙ h.0 in
    let q : p.auth.payer ≡ auth.payer = ap (λ (a : Auth). a.payer) own ∙ sym (ap (λ (a : Auth). a.payer) is) in
    let r : p.auth.serial ≡ n = ap (λ (a : Auth). a.serial) own in
    let s : auth.serial ≡ n + 0 = ap (λ (a : Auth). a.serial) is in
    cond-true (same_auth p.auth auth) (Some p) (find (λ (x : model.Payment). same_auth x.auth auth) ps) (same_parts p.auth auth q (omega (arith, r, s)))
model_at payer n (p ∷ ps) auth (suc k) h is =
    let own : p.auth ≡ numbered payer n = sym (auth_kept p p.reversed_by) ∙ h.0 in
    let r : p.auth.serial ≡ n = ap (λ (a : Auth). a.serial) own in
    let s : auth.serial ≡ n + suc k = ap (λ (a : Auth). a.serial) is in
    let m : n + suc k ≡ n + 1 + k = omega arith in
    cond-false (same_auth p.auth auth) (Some p) (find (λ (x : model.Payment). same_auth x.auth auth) ps) (other_serial p.auth auth (λ e. omega (arith, e, r, s)))
    ∙ model_at payer (n + 1) ps auth k h.1 (is ∙ ap (numbered payer) m)

pub origin_at : (rs : List Ruled) (l : Ledger) (auth : Auth) (k : ℕ) → Keeps rs l → AreNumbered l.payer l.first l.payments → auth ≡ numbered l.payer (l.first + k) → slice_get (origins_in rs) k ≡ option_map origin_of (payment_of auth rs)
origin_at rs l auth k keeps numbers is =
    slice_get-map origin_of (model.payments rs) k
    ∙ ap (option_map origin_of) (sym (model_at l.payer l.first (model.payments rs) auth k (subst (AreNumbered l.payer l.first) keeps.payments numbers) is))

-- what stands at a place has the serial of that place
pub found_serial : (payer n : ℕ) (ps : List Payment) (auth : Auth) (k : ℕ) → AreNumbered payer n ps → k < length ps → slice_get ps k ≡ payment_with auth ps → auth ≡ numbered payer (n + k)
found_serial payer n ps auth k h within is =
    let g = get_exists ps k within in
    let there : payment_with auth ps ≡ Some g.0 = sym is ∙ g.1 in
    sym (auth_same (auth_of g.0) auth (find_passes (has_auth auth) ps g.0 there)) ∙ numbered_at payer n ps k g.0 h g.1

-- none there, none in the model
none_kept : (auth : Auth) (ps : List model.Payment) → payment_with auth (map kept ps) ≡ None → find (λ (p : model.Payment). same_auth p.auth auth) ps ≡ None
none_kept auth [] e = refl
none_kept auth (p ∷ ps) e = by_test (same_auth p.auth auth) (sym (ap (λ (a : Auth). cond (same_auth a auth) (Some (kept p)) (payment_with auth (map kept ps))) (auth_kept p p.reversed_by)) ∙ e) (none_kept auth ps)
  where
    by_test : (b : Bool) → cond b (Some (kept p)) (payment_with auth (map kept ps)) ≡ None → (payment_with auth (map kept ps) ≡ None → find (λ (q : model.Payment). same_auth q.auth auth) ps ≡ None)
        → cond b (Some p) (find (λ (q : model.Payment). same_auth q.auth auth) ps) ≡ None
    by_test true h rest = absurd cc
    by_test false h rest = rest h

pub no_origin : (rs : List Ruled) (l : Ledger) (auth : Auth) → Keeps rs l → payment_with auth l.payments ≡ None → option_map origin_of (payment_of auth rs) ≡ None
no_origin rs l auth keeps none = ap (option_map origin_of) (none_kept auth (model.payments rs) (subst (λ (ps : List Payment). payment_with auth ps ≡ None) keeps.payments none))
