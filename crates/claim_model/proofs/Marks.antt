-- The payments of a list of rulings, as it grows by one.
use Rattle.std.proofs.Common.{◌≡◌, ℕ, zero, suc, Bool, true, false, cond, List, [], ◌∷◌, ◌++◌, map, Option, Some, None, Result, Ok, Err, refl, sym, ap, ◌∙◌, append_assoc}
use Rattle.std.specs.Prelude.{find, filter, option_map, is_none, ⊤}
use Rattle.std.specs.List.{AllByRecursion}
use Rattle.std.proofs.lemmas.List.{map-append}
use mathlib.Core.Path.{ap₂}
use Rattle.claim_model.specs.Words.{TxnId, Auth, Order, Bills, Reverses, Code, Ruling, Paid, Duplicate, Reversed, Rejected}
use Rattle.claim_model.specs.Numbered.{numbered}
use Rattle.claim_model.specs.Ruled.{Ruled}
use Rattle.claim_model.specs.Payments.{Payment, same_auth, reverses, reversed_by, payment_by, payment_at, payments, is_standing, payment_of}
use Rattle.claim_model.proofs.Lists.{all_append}

-- with one more ruling after
abbrev pub marked_by : Ruled → Auth → Option TxnId → Option TxnId
marked_by x auth (Some id) = Some id
marked_by x auth None = cond (reverses auth x) (Some x.id) None

abbrev pub mark : Ruled → Payment → Payment
mark x p = record { id = p.id; place = p.place; claim = p.claim; auth = p.auth; amounts = p.amounts; reversed_by = marked_by x p.auth p.reversed_by }

pub reversed_by_more : (auth : Auth) (rs : List Ruled) (x : Ruled) → reversed_by auth (rs ++ x ∷ []) ≡ marked_by x auth (reversed_by auth rs)
reversed_by_more auth [] x = by_test (reverses auth x)
  where
    by_test : (b : Bool) → option_map (λ (r : Ruled). r.id) (cond b (Some x) None) ≡ cond b (Some x.id) None
    by_test true = refl
    by_test false = refl
reversed_by_more auth (r ∷ rs) x = by_test (reverses auth r) (reversed_by_more auth rs x)
  where
    by_test : (b : Bool) → reversed_by auth (rs ++ x ∷ []) ≡ marked_by x auth (reversed_by auth rs)
        → option_map (λ (q : Ruled). q.id) (cond b (Some r) (find (reverses auth) (rs ++ x ∷ []))) ≡ marked_by x auth (option_map (λ (q : Ruled). q.id) (cond b (Some r) (find (reverses auth) rs)))
    by_test true h = refl
    by_test false h = h

payment_by_more : (r : Ruled) (rs : List Ruled) (x : Ruled) (order : Result Order (List Code)) (given : Ruling) → payment_by r (rs ++ x ∷ []) order given ≡ map (mark x) (payment_by r rs order given)
payment_by_more r rs x (Ok (Bills c)) (Paid auth n m) =
    ap (λ (o : Option TxnId). record { id = r.id; place = r.place; claim = c; auth = auth; amounts = m; reversed_by = o } ∷ []) (reversed_by_more auth rs x)
payment_by_more r rs x (Ok (Bills c)) (Duplicate auth n m) = refl
payment_by_more r rs x (Ok (Bills c)) (Reversed auth n) = refl
payment_by_more r rs x (Ok (Bills c)) (Rejected codes) = refl
payment_by_more r rs x (Ok (Reverses v)) given = refl
payment_by_more r rs x (Err codes) given = refl

-- the payments of one more ruling
pub payments_more : (rs : List Ruled) (x : Ruled) → payments (rs ++ x ∷ []) ≡ map (mark x) (payments rs) ++ payments (x ∷ [])
payments_more [] x = refl
payments_more (r ∷ rs) x =
    ap₂ (λ (ps qs : List Payment). ps ++ qs) (payment_by_more r rs x r.order r.ruling) (payments_more rs x)
    ∙ (sym (append_assoc (map (mark x) (payment_at r rs)) (map (mark x) (payments rs)) (payments (x ∷ [])))
    ∙ ap (λ (ps : List Payment). ps ++ payments (x ∷ [])) (sym (map-append (mark x) (payment_at r rs) (payments rs))))

-- a search by authorization does not see the marks
find_marked : (x : Ruled) (auth : Auth) (ps : List Payment) → find (λ (p : Payment). same_auth p.auth auth) (map (mark x) ps) ≡ option_map (mark x) (find (λ (p : Payment). same_auth p.auth auth) ps)
find_marked x auth [] = refl
find_marked x auth (p ∷ ps) = by_test (same_auth p.auth auth) (find_marked x auth ps)
  where
    by_test : (b : Bool) → find (λ (q : Payment). same_auth q.auth auth) (map (mark x) ps) ≡ option_map (mark x) (find (λ (q : Payment). same_auth q.auth auth) ps)
        → cond b (Some (mark x p)) (find (λ (q : Payment). same_auth q.auth auth) (map (mark x) ps)) ≡ option_map (mark x) (cond b (Some p) (find (λ (q : Payment). same_auth q.auth auth) ps))
    by_test true h = refl
    by_test false h = h

-- the payment with an authorization stays, perhaps with a mark
pub payment_of_more : (rs : List Ruled) (x : Ruled) (auth : Auth) (p : Payment) → payment_of auth rs ≡ Some p → payment_of auth (rs ++ x ∷ []) ≡ Some (mark x p)
payment_of_more rs x auth p e =
    ap (find (λ (q : Payment). same_auth q.auth auth)) (payments_more rs x)
    ∙ Rattle.claim_model.proofs.Lists.find_append (λ (q : Payment). same_auth q.auth auth) (map (mark x) (payments rs)) (payments (x ∷ [])) (mark x p) (find_marked x auth (payments rs) ∙ ap (option_map (mark x)) e)

pub payment_of_new : (rs : List Ruled) (x : Ruled) (auth : Auth) → payment_of auth rs ≡ None → payment_of auth (rs ++ x ∷ []) ≡ payment_of auth (x ∷ [])
payment_of_new rs x auth e =
    ap (find (λ (q : Payment). same_auth q.auth auth)) (payments_more rs x)
    ∙ Rattle.claim_model.proofs.Lists.find_beyond (λ (q : Payment). same_auth q.auth auth) (map (mark x) (payments rs)) (payments (x ∷ [])) (find_marked x auth (payments rs) ∙ ap (option_map (mark x)) e)

-- a payment that stands with the mark stood without it
standing_unmarked : (x : Ruled) (auth : Auth) (o : Option TxnId) → is_none (marked_by x auth o) ≡ true → is_none o ≡ true
standing_unmarked x auth (Some id) e = e
standing_unmarked x auth None e = refl

-- a payment that was reversed stays so
pub reversed_marked : (x : Ruled) (auth : Auth) (o : Option TxnId) → is_none o ≡ false → is_none (marked_by x auth o) ≡ false
reversed_marked x auth (Some id) e = refl
reversed_marked x auth None e = absurd (Rattle.std.proofs.lemmas.Bool.false≢true (sym e))

-- a ruling that reverses it leaves no payment standing
pub reversed_by_mark : (x : Ruled) (auth : Auth) (o : Option TxnId) → reverses auth x ≡ true → is_none (marked_by x auth o) ≡ false
reversed_by_mark x auth (Some id) e = refl
reversed_by_mark x auth None e = ap (λ b. is_none (cond b (Some x.id) None)) e

-- no fill twice

abbrev pub OtherFill : Payment → Payment → Type 0
OtherFill p q = p.claim.fill ≡ q.claim.fill → ⊥

abbrev pub NoFillTwice : List Payment → Type 0
NoFillTwice [] = ⊤
NoFillTwice (p ∷ ps) = AllByRecursion (OtherFill p) ps × NoFillTwice ps

-- what holds of the standing payments holds of those that still stand
all_marked : (P : Payment → Type 0) (x : Ruled) → ((p : Payment) → P p → P (mark x p)) → (ps : List Payment) → AllByRecursion P (filter is_standing ps) → AllByRecursion P (filter is_standing (map (mark x) ps))
all_marked P x f [] all = tt
all_marked P x f (p ∷ ps) all = by_test (is_standing p) (is_standing (mark x p)) (λ h. standing_unmarked x p.auth p.reversed_by h) all (all_marked P x f ps)
  where
    by_test : (b c : Bool) → (c ≡ true → b ≡ true) → AllByRecursion P (cond b (p ∷ filter is_standing ps) (filter is_standing ps)) → (AllByRecursion P (filter is_standing ps) → AllByRecursion P (filter is_standing (map (mark x) ps)))
        → AllByRecursion P (cond c (mark x p ∷ filter is_standing (map (mark x) ps)) (filter is_standing (map (mark x) ps)))
    by_test true true h a g = (f p a.0, g a.1)
    by_test true false h a g = g a.1
    by_test false true h a g = absurd (Rattle.std.proofs.lemmas.Bool.false≢true (h refl))
    by_test false false h a g = g a

pub no_fill_twice_marked : (x : Ruled) (ps : List Payment) → NoFillTwice (filter is_standing ps) → NoFillTwice (filter is_standing (map (mark x) ps))
no_fill_twice_marked x [] n = tt
no_fill_twice_marked x (p ∷ ps) n = by_test (is_standing p) (is_standing (mark x p)) (λ h. standing_unmarked x p.auth p.reversed_by h) n (no_fill_twice_marked x ps) (all_marked (OtherFill p) x (λ q h. h) ps)
  where
    by_test : (b c : Bool) → (c ≡ true → b ≡ true) → NoFillTwice (cond b (p ∷ filter is_standing ps) (filter is_standing ps)) → (NoFillTwice (filter is_standing ps) → NoFillTwice (filter is_standing (map (mark x) ps)))
        → (AllByRecursion (OtherFill p) (filter is_standing ps) → AllByRecursion (OtherFill p) (filter is_standing (map (mark x) ps)))
        → NoFillTwice (cond c (mark x p ∷ filter is_standing (map (mark x) ps)) (filter is_standing (map (mark x) ps)))
    by_test true true h a g k = (k a.0, g a.1)
    by_test true false h a g k = g a.1
    by_test false true h a g k = absurd (Rattle.std.proofs.lemmas.Bool.false≢true (h refl))
    by_test false false h a g k = g a

pub still_others : (x : Ruled) (c : Payment) (ps : List Payment) → AllByRecursion (λ (q : Payment). q.claim.fill ≡ c.claim.fill → ⊥) (filter is_standing ps) → AllByRecursion (λ (q : Payment). q.claim.fill ≡ c.claim.fill → ⊥) (filter is_standing (map (mark x) ps))
still_others x c ps all = all_marked (λ (q : Payment). q.claim.fill ≡ c.claim.fill → ⊥) x (λ q h. h) ps all

pub no_fill_twice_more : (ps : List Payment) (c : Payment) → NoFillTwice ps → AllByRecursion (λ (q : Payment). q.claim.fill ≡ c.claim.fill → ⊥) ps → NoFillTwice (ps ++ c ∷ [])
no_fill_twice_more [] c n all = (tt, tt)
no_fill_twice_more (p ∷ ps) c n all = (all_append (OtherFill p) ps (c ∷ []) n.0 (all.0, tt), no_fill_twice_more ps c n.1 all.1)

-- so two standing payments of one fill are one
pub no_fill_twice_at : (ps : List Payment) (i j : ℕ) (p q : Payment) → NoFillTwice ps → numbered ps i ≡ Some p → numbered ps j ≡ Some q → p.claim.fill ≡ q.claim.fill → i ≡ j
no_fill_twice_at [] zero j p q n e f h = absurd cc
no_fill_twice_at [] (suc i) j p q n e f h = absurd cc
no_fill_twice_at (x ∷ ps) zero j p q n e f h = absurd cc
no_fill_twice_at (x ∷ ps) (suc i) zero p q n e f h = absurd cc
no_fill_twice_at (x ∷ ps) (suc zero) (suc zero) p q n e f h = refl
no_fill_twice_at (x ∷ ps) (suc zero) (suc (suc j)) p q n e f h =
    let same : x ≡ p = cc in
    absurd (Rattle.claim_model.proofs.Lists.all_at (OtherFill x) ps (suc j) q n.0 f (ap (λ (y : Payment). y.claim.fill) same ∙ h))
no_fill_twice_at (x ∷ ps) (suc (suc i)) (suc zero) p q n e f h =
    let same : x ≡ q = cc in
    absurd (Rattle.claim_model.proofs.Lists.all_at (OtherFill x) ps (suc i) p n.0 e (ap (λ (y : Payment). y.claim.fill) same ∙ sym h))
no_fill_twice_at (x ∷ ps) (suc (suc i)) (suc (suc j)) p q n e f h = ap suc (no_fill_twice_at ps (suc i) (suc j) p q n.1 e f h)

-- who reversed a payment

pub record Reverser (rs : List Ruled) (auth : Auth) (id : TxnId) : Type 0 where
  pub number : ℕ
  pub ruled : Ruled
  pub stands : numbered rs number ≡ Some ruled
  pub same : ruled.id ≡ id
  pub reversing : reverses auth ruled ≡ true

reverser_behind : (r : Ruled) (rs : List Ruled) (auth : Auth) (id : TxnId) → Reverser rs auth id → Reverser (r ∷ rs) auth id
reverser_behind r rs auth id x = record { number = suc x.number; ruled = x.ruled; stands = behind rs x.number x.ruled x.stands; same = x.same; reversing = x.reversing }
  where
    behind : (rs : List Ruled) (n : ℕ) (a : Ruled) → numbered rs n ≡ Some a → numbered (r ∷ rs) (suc n) ≡ Some a
    behind rs zero a e = absurd cc
    behind rs (suc k) a e = e

find_reverser : (rs : List Ruled) (auth : Auth) (id : TxnId) → reversed_by auth rs ≡ Some id → Reverser rs auth id
find_reverser [] auth id e = absurd cc
find_reverser (r ∷ rs) auth id e = by_test (reverses auth r) refl (find_reverser rs auth id) e
  where
    same_id : (a b : TxnId) → ◌≡◌ {A = Option TxnId} (Some a) (Some b) → a ≡ b
    same_id a b h = cc

    by_test : (b : Bool) → reverses auth r ≡ b → (reversed_by auth rs ≡ Some id → Reverser rs auth id) → option_map (λ (q : Ruled). q.id) (cond b (Some r) (find (reverses auth) rs)) ≡ Some id → Reverser (r ∷ rs) auth id
    by_test true is g h = record { number = 1; ruled = r; stands = refl; same = same_id r.id id h; reversing = is }
    by_test false is g h = reverser_behind r rs auth id (g h)

abbrev pub HasReverser : List Ruled → Payment → Type 0
HasReverser rs p = (id : TxnId) → p.reversed_by ≡ Some id → Reverser rs p.auth id

payment_by_reverser : (r : Ruled) (rs : List Ruled) (order : Result Order (List Code)) (given : Ruling) → AllByRecursion (HasReverser (r ∷ rs)) (payment_by r rs order given)
payment_by_reverser r rs (Ok (Bills c)) (Paid auth n m) = (λ id e. reverser_behind r rs auth id (find_reverser rs auth id e), tt)
payment_by_reverser r rs (Ok (Bills c)) (Duplicate auth n m) = tt
payment_by_reverser r rs (Ok (Bills c)) (Reversed auth n) = tt
payment_by_reverser r rs (Ok (Bills c)) (Rejected codes) = tt
payment_by_reverser r rs (Ok (Reverses v)) given = tt
payment_by_reverser r rs (Err codes) given = tt

-- a payment that is reversed was reversed by one of the rulings
pub payments_reversers : (rs : List Ruled) → AllByRecursion (HasReverser rs) (payments rs)
payments_reversers [] = tt
payments_reversers (r ∷ rs) =
    all_append (HasReverser (r ∷ rs)) (payment_at r rs) (payments rs) (payment_by_reverser r rs r.order r.ruling)
    (Rattle.claim_model.proofs.Lists.all_weaker (HasReverser rs) (HasReverser (r ∷ rs)) (λ p h id e. reverser_behind r rs p.auth id (h id e)) (payments rs) (payments_reversers rs))
