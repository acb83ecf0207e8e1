-- The standing payments after some changes: those of before that are not reversed, and those that the changes leave.
use Rattle.std.proofs.Common.{◌≡◌, Bool, true, false, not, ◌&&◌, ◌||◌, cond, List, [], ◌∷◌, ◌++◌, Option, Some, None, refl, sym, ap, ◌∙◌, subst, append_assoc}
use Rattle.std.specs.Prelude.{find, filter}
use Rattle.std.specs.List.{AllByRecursion, cons_option}
use Rattle.std.specs.Option.{option_map}
use Rattle.std.proofs.lemmas.Bool.{cond-true, cond-false, false_from_ne_true, both_ways}
use Rattle.std.proofs.lemmas.List.{append-nil}
use Rattle.std.proofs.lemmas.List.Elements.{filter-append}
use Rattle.std.proofs.lemmas.Option.{same_Some as same_some}
use Rattle.claim_model.specs.Words.{Fill, Reversal}
use Rattle.claim_model.specs.Payments.{same_auth}
use Rattle.claim_model.specs.Judgement.{only}
use Rattle.claim_model.proofs.Lists.{find_append, find_beyond}
use Rattle.payer_book.specs.declared.book.payment.Standing.{Standing}
use Rattle.payer_book.specs.declared.ruling.changes.Change.{Change}
use Rattle.payer_book.specs.declared.ruling.changes.Change.TheVariants.{Pays, Reverses as ReversesPayment, Keeps}
use Rattle.payer_book.specs.Ledger.{is_of, standing_of, is_for_payment, IsOther, NoFillTwice}
use Rattle.payer_book.specs.Changes.{is_reversed, left, left_by, standing_after}
use Rattle.payer_book.specs.Matches.{tally, with_one, together, only_of, is_match}
use Rattle.payer_book.proofs.Lists.{filter_same, all_true}
use Rattle.claim_model.proofs.Tests.{fill_same}
use Rattle.payer_book.proofs.Matching.{tally_first}

filter_all : {A : Type 0} (xs : List A) → filter (λ _. true) xs ≡ xs
filter_all [] = refl
filter_all (x ∷ xs) = ap (λ ys. x ∷ ys) (filter_all xs)

filter_twice : {A : Type 0} (f g : A → Bool) (xs : List A) → filter f (filter g xs) ≡ filter (λ x. g x && f x) xs
filter_twice f g [] = refl
filter_twice f g (x ∷ xs) = by_test (g x) (filter_twice f g xs)
  where
    by_test : (b : Bool) → filter f (filter g xs) ≡ filter (λ y. g y && f y) xs → filter f (cond b (x ∷ filter g xs) (filter g xs)) ≡ cond (b && f x) (x ∷ filter (λ y. g y && f y) xs) (filter (λ y. g y && f y) xs)
    by_test true e = ap (λ ys. cond (f x) (x ∷ ys) ys) e
    by_test false e = e

abbrev pub is_kept : List Change → Standing → Bool
is_kept changes s = not (is_reversed s.auth changes)

not_or : (a b : Bool) → (not a && not b) ≡ not (a || b)
not_or true b = refl
not_or false b = refl

pub after_split : (standing : List Standing) (changes : List Change) → standing_after standing changes ≡ filter (is_kept changes) standing ++ left_by changes
after_split standing [] = sym (append-nil (filter (λ (_ : Standing). true) standing) ∙ filter_all standing)
after_split standing (Pays s ∷ later) =
    after_split (standing ++ s ∷ []) later
    ∙ (ap (λ (ss : List Standing). ss ++ left_by later) (filter-append (is_kept later) standing (s ∷ []))
    ∙ (append_assoc (filter (is_kept later) standing) (filter (is_kept later) (s ∷ [])) (left_by later)
    ∙ ap (λ (ss : List Standing). filter (is_kept later) standing ++ ss) (by_test (is_reversed s.auth later))))
  where
    by_test : (b : Bool) → cond (not b) (s ∷ []) [] ++ left_by later ≡ cons_option (cond b None (Some s)) (left_by later)
    by_test true = refl
    by_test false = refl
after_split standing (ReversesPayment auth ∷ later) =
    after_split (filter (λ (s : Standing). not (same_auth auth s.auth)) standing) later
    ∙ ap (λ (ss : List Standing). ss ++ left_by later)
    (filter_twice (is_kept later) (λ (s : Standing). not (same_auth auth s.auth)) standing
    ∙ filter_same _ _ standing (all_true _ (λ s. not_or (same_auth auth s.auth) (is_reversed s.auth later)) standing))
after_split standing (Keeps ∷ later) = after_split standing later

-- the standing payment of a fill

kept_found : (test kept : Standing → Bool) (ss : List Standing) (s : Standing) → find test ss ≡ Some s → kept s ≡ true → find test (filter kept ss) ≡ Some s
kept_found test kept [] s e k = absurd cc
kept_found test kept (t ∷ ss) s e k = by_test (test t) refl (kept t) refl e (λ g. kept_found test kept ss s g k)
  where
    by_test : (b : Bool) → test t ≡ b → (d : Bool) → kept t ≡ d → cond b (Some t) (find test ss) ≡ Some s → (find test ss ≡ Some s → find test (filter kept ss) ≡ Some s) → find test (cond d (t ∷ filter kept ss) (filter kept ss)) ≡ Some s
    by_test true is true has e g = cond-true (test t) (Some t) (find test (filter kept ss)) is ∙ e
    by_test true is false has e g = absurd (both_ways (kept t) has (subst (λ (x : Standing). kept x ≡ true) (sym (same_some t s e)) k))
    by_test false is true has e g = cond-false (test t) (Some t) (find test (filter kept ss)) is ∙ g e
    by_test false is false has e g = g e

none_kept : (test kept : Standing → Bool) (ss : List Standing) → find test ss ≡ None → find test (filter kept ss) ≡ None
none_kept test kept [] e = refl
none_kept test kept (t ∷ ss) e = by_test (test t) refl (kept t) e (none_kept test kept ss)
  where
    by_test : (b : Bool) → test t ≡ b → (d : Bool) → cond b (Some t) (find test ss) ≡ None → (find test ss ≡ None → find test (filter kept ss) ≡ None) → find test (cond d (t ∷ filter kept ss) (filter kept ss)) ≡ None
    by_test true is d e g = absurd cc
    by_test false is true e g = cond-false (test t) (Some t) (find test (filter kept ss)) is ∙ g e
    by_test false is false e g = g e

-- of two payments with one fill the second is not there
no_second : (fill : Fill) (s : Standing) (ss : List Standing) → is_of fill s ≡ true → AllByRecursion (IsOther s) ss → find (is_of fill) ss ≡ None
no_second fill s [] is others = refl
no_second fill s (t ∷ ss) is others =
    cond-false (is_of fill t) (Some t) (find (is_of fill) ss) (false_from_ne_true (is_of fill t) (λ e. others.0 (sym (fill_same fill s.claim.fill is) ∙ fill_same fill t.claim.fill e))) ∙ no_second fill s ss is others.1

gone_found : (fill : Fill) (kept : Standing → Bool) (ss : List Standing) (s : Standing) → NoFillTwice ss → find (is_of fill) ss ≡ Some s → kept s ≡ false → find (is_of fill) (filter kept ss) ≡ None
gone_found fill kept [] s twice e k = absurd cc
gone_found fill kept (t ∷ ss) s twice e k = by_test (is_of fill t) refl (kept t) refl e (λ g. gone_found fill kept ss s twice.1 g k)
  where
    by_test : (b : Bool) → is_of fill t ≡ b → (d : Bool) → kept t ≡ d → cond b (Some t) (find (is_of fill) ss) ≡ Some s → (find (is_of fill) ss ≡ Some s → find (is_of fill) (filter kept ss) ≡ None)
        → find (is_of fill) (cond d (t ∷ filter kept ss) (filter kept ss)) ≡ None
    by_test true is true has e g = absurd (both_ways (kept t) (subst (λ (x : Standing). kept x ≡ false) (sym (same_some t s e)) k) has)
    by_test true is false has e g = none_kept (is_of fill) kept ss (no_second fill t ss is twice.0)
    by_test false is true has e g = cond-false (is_of fill t) (Some t) (find (is_of fill) (filter kept ss)) is ∙ g e
    by_test false is false has e g = g e

module _ (fill : Fill) (standing : List Standing) (changes : List Change) where
  pub stands_after : (s : Standing) → standing_of fill standing ≡ Some s → is_reversed s.auth changes ≡ false → standing_of fill (standing_after standing changes) ≡ Some s
  stands_after s e k =
      ap (standing_of fill) (after_split standing changes)
      ∙ find_append (is_of fill) (filter (is_kept changes) standing) (left_by changes) s (kept_found (is_of fill) (is_kept changes) standing s e (ap not k))

  pub reversed_after : (s : Standing) → NoFillTwice standing → standing_of fill standing ≡ Some s → is_reversed s.auth changes ≡ true → standing_of fill (standing_after standing changes) ≡ standing_of fill (left_by changes)
  reversed_after s twice e k =
      ap (standing_of fill) (after_split standing changes)
      ∙ find_beyond (is_of fill) (filter (is_kept changes) standing) (left_by changes) (gone_found fill (is_kept changes) standing s twice e (ap not k))

  pub none_after : standing_of fill standing ≡ None → standing_of fill (standing_after standing changes) ≡ standing_of fill (left_by changes)
  none_after e =
      ap (standing_of fill) (after_split standing changes)
      ∙ find_beyond (is_of fill) (filter (is_kept changes) standing) (left_by changes) (none_kept (is_of fill) (is_kept changes) standing e)

-- the only standing payment that a reversal is for

pub tally_together : (ss ts : List Standing) → tally (ss ++ ts) ≡ together (tally ss) (tally ts)
tally_together [] ts = refl
tally_together (s ∷ []) ts = tally_first s ts
tally_together (s ∷ t ∷ ss) ts = refl

pub only_tallied : (ss : List Standing) → option_map (λ s. s.auth) (only ss) ≡ only_of (tally ss)
only_tallied [] = refl
only_tallied (s ∷ []) = refl
only_tallied (s ∷ t ∷ ss) = refl

and_swap : (a b : Bool) → (a && b) ≡ (b && a)
and_swap true true = refl
and_swap true false = refl
and_swap false true = refl
and_swap false false = refl

pub only_after : (v : Reversal) (standing : List Standing) (changes : List Change)
    → option_map (λ s. s.auth) (only (filter (is_for_payment v) (standing_after standing changes))) ≡ only_of (together (tally (filter (is_match v changes) standing)) (tally (filter (is_for_payment v) (left_by changes))))
only_after v standing changes =
    ap (λ (ss : List Standing). option_map (λ s. s.auth) (only (filter (is_for_payment v) ss))) (after_split standing changes)
    ∙ (ap (λ (ss : List Standing). option_map (λ s. s.auth) (only ss)) (filter-append (is_for_payment v) (filter (is_kept changes) standing) (left_by changes))
    ∙ (only_tallied (filter (is_for_payment v) (filter (is_kept changes) standing) ++ filter (is_for_payment v) (left_by changes))
    ∙ (ap only_of (tally_together (filter (is_for_payment v) (filter (is_kept changes) standing)) (filter (is_for_payment v) (left_by changes)))
    ∙ ap (λ (ss : List Standing). only_of (together (tally ss) (tally (filter (is_for_payment v) (left_by changes)))))
    (filter_twice (is_for_payment v) (is_kept changes) standing ∙ filter_same _ _ standing (all_true _ (λ s. and_swap (is_kept changes s) (is_for_payment v s)) standing)))))

pub tally_left : (v : Reversal) (change : Change) (later : List Change) (s : Standing) → left change later ≡ Some s
    → tally (filter (is_for_payment v) (left_by (change ∷ later))) ≡ cond (is_for_payment v s) (with_one (tally (filter (is_for_payment v) (left_by later))) s.auth) (tally (filter (is_for_payment v) (left_by later)))
tally_left v change later s e = ap (λ (o : Option Standing). tally (filter (is_for_payment v) (cons_option o (left_by later)))) e ∙ by_test (is_for_payment v s)
  where
    by_test : (b : Bool) → tally (cond b (s ∷ filter (is_for_payment v) (left_by later)) (filter (is_for_payment v) (left_by later))) ≡ cond b (with_one (tally (filter (is_for_payment v) (left_by later))) s.auth) (tally (filter (is_for_payment v) (left_by later)))
    by_test true = tally_first s (filter (is_for_payment v) (left_by later))
    by_test false = refl
