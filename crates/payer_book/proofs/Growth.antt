-- The payments of a list of rulings, as it grows.
use Rattle.std.proofs.Common.{◌≡◌, Bool, true, false, not, cond, List, [], ◌∷◌, ◌++◌, map, Option, Some, None, Result, Ok, Err, refl, sym, ap, ◌∙◌, append_assoc}
use Rattle.std.specs.Prelude.{find, filter, option_map, is_none}
use Rattle.std.proofs.lemmas.List.{map-append}
use Rattle.std.proofs.lemmas.List.Elements.{filter_map-append}
use mathlib.Core.Path.{ap₂}
use Rattle.claim_model.specs.Words.{TxnId, Auth, Amounts, Claim, Reversal, Order, Bills, Reverses, Code, Ruling, Paid, Duplicate, Reversed, Rejected}
use Rattle.claim_model.specs.Ruled.{Ruled}
use Rattle.claim_model.specs.Payments as model
use Rattle.claim_model.specs.Payments.{same_auth, auth_reversed, reverses, reversed_by, payment_by, payment_at, is_standing, standing}
use Rattle.claim_model.specs.Judgement.{is_for, standing_for, only, payment_to_reverse, judged_claim, judged_reversal, judged}
use Rattle.claim_model.proofs.Marks.{marked_by, reversed_by_more}
use Rattle.payer_book.specs.declared.book.payment.Standing.{Standing}
use Rattle.payer_book.specs.declared.book.payment.Payment.{Payment}
use Rattle.payer_book.specs.declared.book.payment.Payment.TheVariants.{Standing as Stands, Reversed as WasReversed}
use Rattle.payer_book.specs.declared.ruling.changes.Change.{Change}
use Rattle.payer_book.specs.declared.ruling.changes.Change.TheVariants.{Pays, Reverses as ReversesPayment, Keeps}
use Rattle.payer_book.specs.Ledger.{still, standing_in, is_of, is_for_payment, after_reversal, reversal_of}
use Rattle.payer_book.specs.Changes.{paid_by, change_by, standing_with, standing_after, payments_with}
use Rattle.payer_book.specs.Drafts.{claim_on, reversal_on, judged_on}
use Rattle.payer_book.specs.Books.{kept_by, kept, payments_of}

-- what a ruling changes
abbrev pub ruled_change : Ruled → Change
ruled_change r = change_by r.order r.ruling

-- what a change makes of earlier payments
abbrev marked : TxnId → Change → List Payment → List Payment
marked id (Pays s) ps = ps
marked id (ReversesPayment auth) ps = map (after_reversal auth id) ps
marked id Keeps ps = ps

split_with : (id : TxnId) (change : Change) (ps qs : List Payment) → payments_with id (ps ++ qs) change ≡ marked id change ps ++ payments_with id qs change
split_with id (Pays s) ps qs = append_assoc ps qs (Stands s ∷ [])
split_with id (ReversesPayment auth) ps qs = map-append (after_reversal auth id) ps qs
split_with id Keeps ps qs = refl

marked_none : (id : TxnId) (change : Change) → marked id change [] ≡ []
marked_none id (Pays s) = refl
marked_none id (ReversesPayment auth) = refl
marked_none id Keeps = refl

unpaid_marks : (auth : Auth) (amounts : Amounts) (id : TxnId) (order : Result Order (List Code)) (ps : List Payment) → ps ≡ marked id (paid_by auth amounts order) ps
unpaid_marks auth amounts id (Ok (Bills c)) ps = refl
unpaid_marks auth amounts id (Ok (Reverses v)) ps = refl
unpaid_marks auth amounts id (Err codes) ps = refl

marks_kept : (p : model.Payment) (x : Ruled) (o : Option TxnId) (order : Result Order (List Code)) (ruling : Ruling) → x.ruling ≡ ruling
    → kept_by p (marked_by x p.auth o) ∷ [] ≡ marked x.id (change_by order ruling) (kept_by p o ∷ [])
marks_kept p x (Some id) order (Paid auth n m) is = unpaid_marks auth m x.id order (kept_by p (Some id) ∷ [])
marks_kept p x (Some id) order (Duplicate auth n m) is = refl
marks_kept p x (Some id) order (Reversed auth n) is = refl
marks_kept p x (Some id) order (Rejected codes) is = refl
marks_kept p x None order (Paid auth n m) is =
    ap (λ (r : Ruling). kept_by p (cond (Rattle.claim_model.specs.Payments.is_auth p.auth (auth_reversed r)) (Some x.id) None) ∷ []) is ∙ unpaid_marks auth m x.id order (kept_by p None ∷ [])
marks_kept p x None order (Duplicate auth n m) is = ap (λ (r : Ruling). kept_by p (cond (Rattle.claim_model.specs.Payments.is_auth p.auth (auth_reversed r)) (Some x.id) None) ∷ []) is
marks_kept p x None order (Reversed auth n) is =
    ap (λ (r : Ruling). kept_by p (cond (Rattle.claim_model.specs.Payments.is_auth p.auth (auth_reversed r)) (Some x.id) None) ∷ []) is ∙ by_test (same_auth auth p.auth)
  where
    by_test : (b : Bool) → kept_by p (cond b (Some x.id) None) ∷ [] ≡ cond b (reversal_of x.id (record { auth = p.auth; claim = p.claim; amounts = p.amounts })) (Stands (record { auth = p.auth; claim = p.claim; amounts = p.amounts })) ∷ []
    by_test true = refl
    by_test false = refl
marks_kept p x None order (Rejected codes) is = ap (λ (r : Ruling). kept_by p (cond (Rattle.claim_model.specs.Payments.is_auth p.auth (auth_reversed r)) (Some x.id) None) ∷ []) is

payment_by_more : (r : Ruled) (rs : List Ruled) (x : Ruled) (order : Result Order (List Code)) (given : Ruling) → map kept (payment_by r (rs ++ x ∷ []) order given) ≡ marked x.id (ruled_change x) (map kept (payment_by r rs order given))
payment_by_more r rs x (Ok (Bills c)) (Paid auth n m) =
    let p : model.Payment = record { id = r.id; place = r.place; claim = c; auth = auth; amounts = m; reversed_by = reversed_by auth rs } in
    ap (λ (o : Option TxnId). kept_by p o ∷ []) (reversed_by_more auth rs x) ∙ marks_kept p x (reversed_by auth rs) x.order x.ruling refl
payment_by_more r rs x (Ok (Bills c)) (Duplicate auth n m) = sym (marked_none x.id (ruled_change x))
payment_by_more r rs x (Ok (Bills c)) (Reversed auth n) = sym (marked_none x.id (ruled_change x))
payment_by_more r rs x (Ok (Bills c)) (Rejected codes) = sym (marked_none x.id (ruled_change x))
payment_by_more r rs x (Ok (Reverses v)) given = sym (marked_none x.id (ruled_change x))
payment_by_more r rs x (Err codes) given = sym (marked_none x.id (ruled_change x))

one_payment : (x : Ruled) (order : Result Order (List Code)) (given : Ruling) → map kept (payment_by x [] order given) ≡ payments_with x.id [] (change_by order given)
one_payment x (Ok (Bills c)) (Paid auth n m) = refl
one_payment x (Ok (Reverses v)) (Paid auth n m) = refl
one_payment x (Err codes) (Paid auth n m) = refl
one_payment x (Ok (Bills c)) (Duplicate auth n m) = refl
one_payment x (Ok (Reverses v)) (Duplicate auth n m) = refl
one_payment x (Err codes) (Duplicate auth n m) = refl
one_payment x (Ok (Bills c)) (Reversed auth n) = refl
one_payment x (Ok (Reverses v)) (Reversed auth n) = refl
one_payment x (Err codes) (Reversed auth n) = refl
one_payment x (Ok (Bills c)) (Rejected codes) = refl
one_payment x (Ok (Reverses v)) (Rejected codes) = refl
one_payment x (Err codes) (Rejected rejects) = refl

-- the payments of one more ruling
pub payments_more : (rs : List Ruled) (x : Ruled) → payments_of (rs ++ x ∷ []) ≡ payments_with x.id (payments_of rs) (ruled_change x)
payments_more [] x = ap (map kept) (Rattle.std.proofs.lemmas.List.append-nil (payment_at x [])) ∙ one_payment x x.order x.ruling
payments_more (r ∷ rs) x =
    map-append kept (payment_at r (rs ++ x ∷ [])) (model.payments (rs ++ x ∷ []))
    ∙ (ap₂ (λ (ps qs : List Payment). ps ++ qs) (payment_by_more r rs x r.order r.ruling) (payments_more rs x)
    ∙ (sym (split_with x.id (ruled_change x) (map kept (payment_at r rs)) (payments_of rs))
    ∙ ap (λ (ps : List Payment). payments_with x.id ps (ruled_change x)) (sym (map-append kept (payment_at r rs) (model.payments rs)))))

-- the standing payments after a change
pub standing_more : (id : TxnId) (ps : List Payment) (change : Change) → standing_in (payments_with id ps change) ≡ standing_with (standing_in ps) change
standing_more id ps (Pays s) = filter_map-append still ps (Stands s ∷ [])
standing_more id ps (ReversesPayment auth) = reversed ps
  where
    reversed : (qs : List Payment) → standing_in (map (after_reversal auth id) qs) ≡ filter (λ (s : Standing). not (same_auth auth s.auth)) (standing_in qs)
    reversed [] = refl
    reversed (WasReversed r ∷ qs) = reversed qs
    reversed (Stands s ∷ qs) = by_test (same_auth auth s.auth) (reversed qs)
      where
        by_test : (b : Bool) → standing_in (map (after_reversal auth id) qs) ≡ filter (λ (t : Standing). not (same_auth auth t.auth)) (standing_in qs)
            → standing_in (cond b (reversal_of id s) (Stands s) ∷ map (after_reversal auth id) qs) ≡ cond (not b) (s ∷ filter (λ (t : Standing). not (same_auth auth t.auth)) (standing_in qs)) (filter (λ (t : Standing). not (same_auth auth t.auth)) (standing_in qs))
        by_test true h = h
        by_test false h = ap (λ (ss : List Standing). s ∷ ss) h
standing_more id ps Keeps = refl

pub after_more : (standing : List Standing) (changes : List Change) (change : Change) → standing_after standing (changes ++ change ∷ []) ≡ standing_with (standing_after standing changes) change
after_more standing [] change = refl
after_more standing (c ∷ changes) change = after_more (standing_with standing c) changes change

-- the standing payments of the model

abbrev to_standing : model.Payment → Standing
to_standing p = record { auth = p.auth; claim = p.claim; amounts = p.amounts }

standing_kept : (ps : List model.Payment) → map to_standing (filter is_standing ps) ≡ standing_in (map kept ps)
standing_kept [] = refl
standing_kept (p ∷ ps) = by_case p.reversed_by (standing_kept ps)
  where
    by_case : (o : Option TxnId) → map to_standing (filter is_standing ps) ≡ standing_in (map kept ps) → map to_standing (cond (is_none o) (p ∷ filter is_standing ps) (filter is_standing ps)) ≡ standing_in (kept_by p o ∷ map kept ps)
    by_case None e = ap (λ (ss : List Standing). to_standing p ∷ ss) e
    by_case (Some id) e = e

find_mapped : {A B : Type 0} (f : A → B) (test : B → Bool) (xs : List A) → option_map f (find (λ x. test (f x)) xs) ≡ find test (map f xs)
find_mapped f test [] = refl
find_mapped f test (x ∷ xs) = by_test (test (f x)) (find_mapped f test xs)
  where
    by_test : (b : Bool) → option_map f (find (λ y. test (f y)) xs) ≡ find test (map f xs) → option_map f (cond b (Some x) (find (λ y. test (f y)) xs)) ≡ cond b (Some (f x)) (find test (map f xs))
    by_test true e = refl
    by_test false e = e

filter_mapped : {A B : Type 0} (f : A → B) (test : B → Bool) (xs : List A) → map f (filter (λ x. test (f x)) xs) ≡ filter test (map f xs)
filter_mapped f test [] = refl
filter_mapped f test (x ∷ xs) = by_test (test (f x)) (filter_mapped f test xs)
  where
    by_test : (b : Bool) → map f (filter (λ y. test (f y)) xs) ≡ filter test (map f xs) → map f (cond b (x ∷ filter (λ y. test (f y)) xs) (filter (λ y. test (f y)) xs)) ≡ cond b (f x ∷ filter test (map f xs)) (filter test (map f xs))
    by_test true e = ap (λ ys. f x ∷ ys) e
    by_test false e = e

only_mapped : {A B : Type 0} (f : A → B) (xs : List A) → option_map f (only xs) ≡ only (map f xs)
only_mapped f [] = refl
only_mapped f (x ∷ []) = refl
only_mapped f (x ∷ y ∷ more) = refl

claim_same : (c : Claim) (o : Option model.Payment) → judged_claim c o ≡ claim_on c (option_map to_standing o)
claim_same c None = refl
claim_same c (Some p) = refl

reversal_same : (v : Reversal) (o : Option model.Payment) → judged_reversal v o ≡ reversal_on v (option_map to_standing o)
reversal_same v None = refl
reversal_same v (Some p) = refl

-- the model's judgement is the one over the standing payments
pub judged_same : (before : List Ruled) (order : Result Order (List Code)) → judged before order ≡ judged_on (standing_in (payments_of before)) order
unfolding judged
judged_same before (Err codes) = refl
judged_same before (Ok (Bills c)) =
    claim_same c (standing_for c.fill before) ∙ ap (claim_on c) (find_mapped to_standing (is_of c.fill) (standing before) ∙ ap (find (is_of c.fill)) (standing_kept (model.payments before)))
judged_same before (Ok (Reverses v)) =
    reversal_same v (payment_to_reverse v before)
    ∙ ap (reversal_on v) (only_mapped to_standing (filter (λ (p : model.Payment). is_for v p.claim) (standing before))
    ∙ ap only (filter_mapped to_standing (is_for_payment v) (standing before) ∙ ap (filter (is_for_payment v)) (standing_kept (model.payments before))))
