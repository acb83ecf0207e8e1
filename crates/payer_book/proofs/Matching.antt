-- The payments that a reversal is for, told by fill number.
use Rattle.std.proofs.Common.{◌≡◌, ℕ, ◌+◌, ◌≤◌, Bool, true, false, not, ◌&&◌, ◌==◌, cond, List, [], ◌∷◌, Option, Some, None, refl, sym, ap, ◌∙◌, subst, arith}
use Rattle.std.specs.Prelude.{filter, bytes_eq}
use Rattle.std.specs.List.{AllByRecursion}
use Rattle.std.proofs.lemmas.Bool.{cond-true, cond-false, and_parts, and_from, and_left, and_right, false_from_ne_true, le-leb, lt-ltb, le-ltb, eqb-true, eq-eqb}
use Rattle.std.proofs.lemmas.Bool.Decides.{nat_tests}
use Rattle.claim_model.specs.Words.{Auth, Fill, Claim, Reversal}
use Rattle.claim_model.specs.Judgement.{same_fill, is_fill_number}
use Rattle.claim_model.proofs.Lists.{all_weaker}
use Rattle.payer_book.specs.declared.book.payment.Standing.{Standing}
use Rattle.payer_book.specs.declared.ruling.changes.Change.{Change}
use Rattle.payer_book.specs.declared.ruling.matches.Matches.{Matches}
use Rattle.payer_book.specs.declared.ruling.matches.Matches.TheVariants.{Nothing, One, Several}
use Rattle.payer_book.specs.Ledger.{is_of, standing_of, is_for_payment, IsOther, NoFillTwice}
use Rattle.payer_book.specs.Changes.{is_reversed}
use Rattle.payer_book.specs.PaymentPlaces.{IsBelow}
use Rattle.payer_book.specs.Matches.{tally, with_one, fill_for, is_match, matched, is_between, matches_between}
use Rattle.payer_book.proofs.Lists.{filter_same, filter_none, all_true}
use Rattle.claim_model.proofs.Tests.{fill_same}

pub tally_first : (s : Standing) (ss : List Standing) → tally (s ∷ ss) ≡ with_one (tally ss) s.auth
tally_first s [] = refl
tally_first s (t ∷ []) = refl
tally_first s (t ∷ u ∷ more) = refl

with_one_swap : (m : Matches) (s t : Auth) → with_one (with_one m s) t ≡ with_one (with_one m t) s
with_one_swap Nothing s t = refl
with_one_swap (One u) s t = refl
with_one_swap Several s t = refl

-- what a reversal for a claim has in common with it
record Common (v : Reversal) (c : Claim) : Type 0 where
  bin : bytes_eq v.bin c.fill.bin ≡ true
  pcn : bytes_eq v.pcn c.fill.pcn ≡ true
  qualifier : bytes_eq v.qualifier c.fill.qualifier ≡ true
  provider : bytes_eq v.provider c.fill.provider ≡ true
  prescription : (v.prescription == c.fill.prescription) ≡ true
  number : is_fill_number c.fill.fill v.fill ≡ true

six_parts : (a b c d e f g : Bool) → (a && (b && (c && (d && (e && (f && g)))))) ≡ true → (a ≡ true) × (b ≡ true) × (c ≡ true) × (d ≡ true) × (e ≡ true) × (g ≡ true)
six_parts true true true true true true true h = (refl, refl, refl, refl, refl, refl)
six_parts true true true true true true false h = absurd cc
six_parts true true true true true false g h = absurd cc
six_parts true true true true false f g h = absurd cc
six_parts true true true false e f g h = absurd cc
six_parts true true false d e f g h = absurd cc
six_parts true false c d e f g h = absurd cc
six_parts false b c d e f g h = absurd cc

common : (v : Reversal) (changes : List Change) (s : Standing) → is_match v changes s ≡ true → Common v s.claim
common v changes s h =
    let p = six_parts (bytes_eq v.bin s.claim.fill.bin) (bytes_eq v.pcn s.claim.fill.pcn) (bytes_eq v.qualifier s.claim.fill.qualifier) (bytes_eq v.provider s.claim.fill.provider)
    (v.prescription == s.claim.fill.prescription) (bytes_eq v.date s.claim.date) (is_fill_number s.claim.fill.fill v.fill) (and_parts (is_for_payment v s) (not (is_reversed s.auth changes)) h).0 in
    record { bin = p.0; pcn = p.1; qualifier = p.2; provider = p.3; prescription = p.4; number = p.5 }

-- what is matched keeps the fill of the reversal
pub match_fill : (v : Reversal) (changes : List Change) (s : Standing) → is_match v changes s ≡ true → same_fill (fill_for v s.claim.fill.fill) s.claim.fill ≡ true
match_fill v changes s h =
    let f : Fill = s.claim.fill in
    let p = common v changes s h in
    and_from _ _ p.bin (and_from _ _ p.pcn (and_from _ _ p.qualifier (and_from _ _ p.provider (and_from _ _ p.prescription (eq-eqb f.fill f.fill refl)))))

-- and its fill number where the reversal has one
pub match_number : (v : Reversal) (changes : List Change) (s : Standing) (n : ℕ) → v.fill ≡ Some n → is_match v changes s ≡ true → n ≡ s.claim.fill.fill
match_number v changes s n is h = eqb-true n s.claim.fill.fill (subst (λ (o : Option ℕ). is_fill_number s.claim.fill.fill o ≡ true) is (common v changes s h).number)

module _ (v : Reversal) (changes : List Change) (first : ℕ) where
  -- no number is below the first and not below it
  pub none_between : (ss : List Standing) → matches_between v changes first first ss ≡ []
  none_between ss =
      filter_none (λ (s : Standing). is_match v changes s && is_between first first s) ss
      (all_true _ (λ s. and_right (is_match v changes s) (is_between first first s) (let m : ℕ = s.claim.fill.fill in grind (arith, nat_tests))) ss)

  -- the test of one more number at a payment with another number
  test_other : (n : ℕ) (s : Standing) → same_fill (fill_for v n) s.claim.fill ≡ false → (is_match v changes s && is_between first (n + 1) s) ≡ (is_match v changes s && is_between first n s)
  test_other n s other = by_test (is_match v changes s) refl
    where
      by_test : (b : Bool) → is_match v changes s ≡ b → (b && is_between first (n + 1) s) ≡ (b && is_between first n s)
      by_test false is = refl
      by_test true is =
          let apart : s.claim.fill.fill ≡ n → ⊥ = λ e. Rattle.std.proofs.lemmas.Bool.both_ways (same_fill (fill_for v n) s.claim.fill) other (subst (λ k. same_fill (fill_for v k) s.claim.fill ≡ true) e (match_fill v changes s is)) in
          let m : ℕ = s.claim.fill.fill in grind (arith, nat_tests)

  -- later payments of another fill
  later_same : (n : ℕ) (s : Standing) (ss : List Standing) → same_fill (fill_for v n) s.claim.fill ≡ true → AllByRecursion (IsOther s) ss → matches_between v changes first (n + 1) ss ≡ matches_between v changes first n ss
  later_same n s ss is others =
      filter_same _ _ ss
      (all_weaker (IsOther s) _ (λ t other. test_other n t (false_from_ne_true (same_fill (fill_for v n) t.claim.fill) (λ e. other (sym (fill_same (fill_for v n) s.claim.fill is) ∙ fill_same (fill_for v n) t.claim.fill e)))) ss others)

  step : (n : ℕ) (ss : List Standing) → first ≤ n → NoFillTwice ss → tally (matches_between v changes first (n + 1) ss) ≡ matched v changes (standing_of (fill_for v n) ss) (tally (matches_between v changes first n ss))
  step n [] le twice = refl
  step n (s ∷ ss) le twice = by_test (is_of (fill_for v n) s) refl (step n ss le twice.1)
    where
      by_test : (b : Bool) → is_of (fill_for v n) s ≡ b → tally (matches_between v changes first (n + 1) ss) ≡ matched v changes (standing_of (fill_for v n) ss) (tally (matches_between v changes first n ss))
          → tally (matches_between v changes first (n + 1) (s ∷ ss)) ≡ matched v changes (cond b (Some s) (standing_of (fill_for v n) ss)) (tally (matches_between v changes first n (s ∷ ss)))
      by_test true is g =
          let number : n ≡ s.claim.fill.fill = ap (λ (f : Fill). f.fill) (fill_same (fill_for v n) s.claim.fill is) in
          let inside : is_between first (n + 1) s ≡ true = let m : ℕ = s.claim.fill.fill in grind (arith, nat_tests) in
          let outside : is_between first n s ≡ false = let m : ℕ = s.claim.fill.fill in grind (arith, nat_tests) in
          let now : matches_between v changes first (n + 1) (s ∷ ss) ≡ cond (is_match v changes s) (s ∷ matches_between v changes first n ss) (matches_between v changes first n ss) =
          ap (λ b. cond (is_match v changes s && b) (s ∷ matches_between v changes first (n + 1) ss) (matches_between v changes first (n + 1) ss)) inside
          ∙ (ap (λ b. cond b (s ∷ matches_between v changes first (n + 1) ss) (matches_between v changes first (n + 1) ss)) (and_one (is_match v changes s))
          ∙ ap (λ (xs : List Standing). cond (is_match v changes s) (s ∷ xs) xs) (later_same n s ss is twice.0)) in
          let before : matches_between v changes first n (s ∷ ss) ≡ matches_between v changes first n ss =
          cond-false (is_match v changes s && is_between first n s) (s ∷ matches_between v changes first n ss) (matches_between v changes first n ss) (and_right (is_match v changes s) (is_between first n s) outside) in
          ap tally now ∙ (counted (is_match v changes s) (matches_between v changes first n ss) ∙ ap (λ (xs : List Standing). cond (is_match v changes s) (with_one (tally xs) s.auth) (tally xs)) (sym before))
        where
          and_one : (b : Bool) → (b && true) ≡ b
          and_one true = refl
          and_one false = refl

          counted : (b : Bool) (xs : List Standing) → tally (cond b (s ∷ xs) xs) ≡ cond b (with_one (tally xs) s.auth) (tally xs)
          counted true xs = tally_first s xs
          counted false xs = refl
      by_test false is g =
          ap (λ b. tally (cond b (s ∷ matches_between v changes first (n + 1) ss) (matches_between v changes first (n + 1) ss))) (test_other n s is)
          ∙ both (is_match v changes s && is_between first n s) (standing_of (fill_for v n) ss) g
        where
          swapped : (o : Option Standing) (m : Matches) → with_one (matched v changes o m) s.auth ≡ matched v changes o (with_one m s.auth)
          swapped None m = refl
          swapped (Some t) m = inner (is_match v changes t)
            where
              inner : (b : Bool) → with_one (cond b (with_one m t.auth) m) s.auth ≡ cond b (with_one (with_one m s.auth) t.auth) (with_one m s.auth)
              inner true = with_one_swap m t.auth s.auth
              inner false = refl

          both : (b : Bool) (o : Option Standing) → tally (matches_between v changes first (n + 1) ss) ≡ matched v changes o (tally (matches_between v changes first n ss))
              → tally (cond b (s ∷ matches_between v changes first (n + 1) ss) (matches_between v changes first (n + 1) ss)) ≡ matched v changes o (tally (cond b (s ∷ matches_between v changes first n ss) (matches_between v changes first n ss)))
          both true o g =
              tally_first s (matches_between v changes first (n + 1) ss)
              ∙ (ap (λ (m : Matches). with_one m s.auth) g ∙ (swapped o (tally (matches_between v changes first n ss)) ∙ ap (matched v changes o) (sym (tally_first s (matches_between v changes first n ss)))))
          both false o g = g

  -- the matches below one more number
  pub matches_more : (n : ℕ) (ss : List Standing) → first ≤ n → NoFillTwice ss → tally (matches_between v changes first (n + 1) ss) ≡ matched v changes (standing_of (fill_for v n) ss) (tally (matches_between v changes first n ss))
  matches_more = step

-- a reversal with a fill number
pub matches_one : (v : Reversal) (changes : List Change) (n : ℕ) (ss : List Standing) → v.fill ≡ Some n → matches_between v changes n (n + 1) ss ≡ filter (is_match v changes) ss
matches_one v changes n ss is = filter_same _ _ ss (all_true _ (λ s. by_test s (is_match v changes s) refl) ss)
  where
    by_test : (s : Standing) (b : Bool) → is_match v changes s ≡ b → (b && is_between n (n + 1) s) ≡ b
    by_test s false h = refl
    by_test s true h = let e : n ≡ s.claim.fill.fill = match_number v changes s n is h in let m : ℕ = s.claim.fill.fill in grind (arith, nat_tests)

-- and one without
pub matches_any : (v : Reversal) (changes : List Change) (numbers : ℕ) (ss : List Standing) → AllByRecursion (IsBelow numbers) ss → matches_between v changes 0 numbers ss ≡ filter (is_match v changes) ss
matches_any v changes numbers ss below = filter_same _ _ ss (all_weaker (IsBelow numbers) _ (λ s lt. by_test s lt (is_match v changes s)) ss below)
  where
    by_test : (s : Standing) → IsBelow numbers s → (b : Bool) → (b && is_between 0 numbers s) ≡ b
    by_test s lt false = refl
    by_test s lt true = let m : ℕ = s.claim.fill.fill in grind (arith, nat_tests)
