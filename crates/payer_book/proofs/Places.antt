-- The rulings of a request, as one more place is ruled.
use Rattle.std.proofs.Common.{◌≡◌, ℕ, ◌+◌, ◌<◌, ◌≤◌, Bool, true, false, ◌&&◌, List, [], ◌∷◌, ◌++◌, map, drop, length, get_or, Result, refl, sym, ap, ◌∙◌, append_assoc, arith, length-append}
use Rattle.std.specs.List.{list_all}
use Rattle.std.proofs.lemmas.Bool.{and_from, and_left, and_right}
use Rattle.std.proofs.lemmas.List.{drop_more, drop_all, get_or-map, length-map, append-nil}
use Rattle.d0_header.specs.Request.{Request}
use Rattle.d0_segments.specs.Parts.{SegmentParts}
use Rattle.claim_profile.specs.Order.{order_of}
use Rattle.claim_model.specs.Words.{Order, Code, Ruling}
use Rattle.claim_model.specs.Bytes.{order_in}
use Rattle.claim_model.specs.Book.{serial_fits}
use Rattle.payer_book.specs.declared.ruling.changes.Change.{Change}
use Rattle.payer_book.specs.Ledger.{Ledger}
use Rattle.payer_book.specs.Changes.{change_by, changes_by}
use Rattle.payer_book.specs.Drafts.{Pricing, ruling_on, rulings_on, advised_on, all_advised_on}

-- the orders of groups from a place on
pub order_at : (h : Request) (shared : List SegmentParts) (groups : List (List SegmentParts)) (place : ℕ) → place < length groups
    → drop place (map (λ group. order_in (order_of h shared group)) groups) ≡ order_in (order_of h shared (get_or groups place [])) ∷ drop (place + 1) (map (λ group. order_in (order_of h shared group)) groups)
order_at h shared groups place lt =
    let f : List SegmentParts → Result Order (List Code) = λ group. order_in (order_of h shared group) in
    let inside : place < length (map f groups) = omega (arith, length-map groups f) in
    drop_more (map f groups) place (f []) inside ∙ ap (λ (o : Result Order (List Code)). o ∷ drop (place + 1) (map f groups)) (get_or-map f groups place [] (f []) lt)

pub all_push : {A : Type 0} (test : A → Bool) (xs : List A) (x : A) → list_all test xs ≡ true → test x ≡ true → list_all test (xs ++ x ∷ []) ≡ true
all_push test [] x h is = and_from (test x) true is refl
all_push test (y ∷ ys) x h is = let p = Rattle.std.proofs.lemmas.Bool.and_parts (test y) (list_all test ys) h in and_from (test y) (list_all test (ys ++ x ∷ [])) p.0 (all_push test ys x p.1 is)

pub all_fails : {A : Type 0} (test : A → Bool) (xs : List A) (x : A) (more : List A) → test x ≡ false → list_all test (xs ++ x ∷ more) ≡ false
all_fails test [] x more is = and_left (test x) (list_all test more) is
all_fails test (y ∷ ys) x more is = and_right (test y) (list_all test (ys ++ x ∷ more)) (all_fails test ys x more is)

changes_push : (orders rest : List (Result Order (List Code))) (order : Result Order (List Code)) (rulings : List Ruling) (r : Ruling) → drop (length rulings) orders ≡ order ∷ rest → changes_by orders (rulings ++ r ∷ []) ≡ changes_by orders rulings ++ change_by order r ∷ []
changes_push [] rest order [] r e = absurd cc
changes_push [] rest order (x ∷ rulings) r e = absurd cc
changes_push (o ∷ orders) rest order [] r e = let same : o ≡ order = cc in ap (λ (q : Result Order (List Code)). change_by q r ∷ changes_by orders []) same ∙ ap (λ (cs : List Change). change_by order r ∷ cs) (none orders)
  where
    none : (os : List (Result Order (List Code))) → changes_by os [] ≡ []
    none [] = refl
    none (o ∷ os) = refl
changes_push (o ∷ orders) rest order (x ∷ rulings) r e = ap (λ (cs : List Change). change_by o x ∷ cs) (changes_push orders rest order rulings r e)

and_assoc : (a b c : Bool) → ((a && b) && c) ≡ (a && (b && c))
and_assoc true b c = refl
and_assoc false b c = refl

-- what holds of a draft so far
pub record SoFar (l : Ledger) (prices : Pricing) (orders : List (Result Order (List Code))) (place : ℕ) (rulings : List Ruling) (changes : List Change) (advised : Bool) : Type 0 where
  pub ruled : rulings ++ rulings_on l prices changes (drop place orders) ≡ rulings_on l prices [] orders
  pub changed : changes ≡ changes_by orders rulings
  pub fit : list_all serial_fits rulings ≡ true
  pub long : length rulings ≡ place
  pub all_advised : (advised && all_advised_on l prices changes (drop place orders)) ≡ all_advised_on l prices [] orders

module _ (l : Ledger) (prices : Pricing) (orders : List (Result Order (List Code))) (place : ℕ) (order : Result Order (List Code)) (rulings : List Ruling) (changes : List Change) (advised : Bool) (h : SoFar l prices orders place rulings changes advised)
    (next : drop place orders ≡ order ∷ drop (place + 1) orders) where
  ruled_so : rulings ++ (ruling_on l prices changes order ∷ rulings_on l prices (changes ++ change_by order (ruling_on l prices changes order) ∷ []) (drop (place + 1) orders)) ≡ rulings_on l prices [] orders
  ruled_so = ap (λ (os : List (Result Order (List Code))). rulings ++ rulings_on l prices changes os) (sym next) ∙ h.ruled

  pub one_more : (r : Ruling) → r ≡ ruling_on l prices changes order → serial_fits r ≡ true → SoFar l prices orders (place + 1) (rulings ++ r ∷ []) (changes ++ change_by order r ∷ []) (advised && advised_on l prices changes order)
  one_more r is fits = record {
    ruled = append_assoc rulings (r ∷ []) (rulings_on l prices (changes ++ change_by order r ∷ []) (drop (place + 1) orders))
        ∙ (ap (λ (x : Ruling). rulings ++ (x ∷ rulings_on l prices (changes ++ change_by order x ∷ []) (drop (place + 1) orders))) is ∙ ruled_so);
    changed = ap (λ (cs : List Change). cs ++ change_by order r ∷ []) h.changed ∙ sym (changes_push orders (drop (place + 1) orders) order rulings r (ap (λ n. drop n orders) h.long ∙ next));
    fit = all_push serial_fits rulings r h.fit fits;
    long = omega (arith, h.long, length-append rulings (r ∷ []));
    all_advised = and_assoc advised (advised_on l prices changes order) (all_advised_on l prices (changes ++ change_by order r ∷ []) (drop (place + 1) orders))
        ∙ (ap (λ (x : Ruling). advised && (advised_on l prices changes order && all_advised_on l prices (changes ++ change_by order x ∷ []) (drop (place + 1) orders))) is
        ∙ (ap (λ (os : List (Result Order (List Code))). advised && all_advised_on l prices changes os) (sym next) ∙ h.all_advised));
  }

  pub not_all_fit : serial_fits (ruling_on l prices changes order) ≡ false → list_all serial_fits (rulings_on l prices [] orders) ≡ false
  not_all_fit bad =
      ap (list_all serial_fits) (sym ruled_so)
      ∙ all_fails serial_fits rulings (ruling_on l prices changes order) (rulings_on l prices (changes ++ change_by order (ruling_on l prices changes order) ∷ []) (drop (place + 1) orders)) bad

pub nothing_yet : (l : Ledger) (prices : Pricing) (orders : List (Result Order (List Code))) → SoFar l prices orders 0 [] [] true
nothing_yet l prices orders = record { ruled = refl; changed = none orders; fit = refl; long = refl; all_advised = refl }
  where
    none : (os : List (Result Order (List Code))) → [] ≡ changes_by os []
    none [] = refl
    none (o ∷ os) = refl

-- all places are ruled
pub all_ruled : (l : Ledger) (prices : Pricing) (orders : List (Result Order (List Code))) (place : ℕ) (rulings : List Ruling) (changes : List Change) (advised : Bool) → SoFar l prices orders place rulings changes advised → length orders ≤ place
    → rulings ≡ rulings_on l prices [] orders
all_ruled l prices orders place rulings changes advised h le =
    sym (append-nil rulings) ∙ (ap (λ (os : List (Result Order (List Code))). rulings ++ rulings_on l prices changes os) (sym (drop_all place orders le)) ∙ h.ruled)

and_true : (t : Bool) → (t && true) ≡ t
and_true true = refl
and_true false = refl

-- and every one of them that wants a verdict has it, or not
pub all_are_advised : (l : Ledger) (prices : Pricing) (orders : List (Result Order (List Code))) (place : ℕ) (rulings : List Ruling) (changes : List Change) (advised : Bool) → SoFar l prices orders place rulings changes advised → length orders ≤ place
    → advised ≡ all_advised_on l prices [] orders
all_are_advised l prices orders place rulings changes advised h le =
    sym (and_true advised) ∙ (ap (λ (os : List (Result Order (List Code))). advised && all_advised_on l prices changes os) (sym (drop_all place orders le)) ∙ h.all_advised)
