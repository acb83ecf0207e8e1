-- Figures of a remittance over the rulings of some books, where each authorization is of the book that ruled.
use Rattle.std.proofs.Common.{◌≡◌, ℕ, ◌+◌, ◌==◌, Bool, true, false, cond, List, [], ◌∷◌, ◌++◌, map, refl, sym, ap, subst, ◌∙◌, inl, inr, arith, true≢false}
use Rattle.std.specs.Prelude.{◌&&◌, ◌||◌, Option, Some, None, filter, option_map, unwrap_or}
use Rattle.std.specs.List.{list_any, sum_by}
use Rattle.std.proofs.lemmas.Bool.{cases_Bool, eqb-true}
use Rattle.std.proofs.lemmas.List.{map-append}
use Rattle.std.proofs.lemmas.List.Sums.{sum_by-cons}
use Rattle.std.proofs.lemmas.List.Elements.{filter-append}
use Rattle.claim_reports.specs.declared.books.Span.{Span}
use Rattle.claim_reports.specs.declared.daily.DailyRemittance.{DailyRemittance}
use Rattle.claim_reports.specs.declared.daily.DailyRuling.{DailyRuling}
use Rattle.claim_reports.specs.declared.ledger.Move.{Move}
use Rattle.claim_reports.specs.declared.ledger.Move.TheVariants.{Paid, Reversed}
use Rattle.claim_reports.specs.BookLaws.{AreOwned, AreSplit, RemitTogether, back_over, paid_over, rulings_of, stands_over, stood_over}
use Rattle.claim_reports.specs.Daily.{earlier, is_before, is_within, moves_of, moves_up_to, within}
use Rattle.claim_reports.specs.Ledger.{back_cents, is_reversed, paid_cents, paid_for, paid_total, reverses, standing_cents, standing_total, taken_back}
use Rattle.claim_reports.specs.Statement.{auth_of}
use Rattle.claim_reports.specs.Shelves.{has}
use Rattle.claim_reports.proofs.Shares.{both_tests, split_sum}

-- a ruling is of these books
abbrev is_own : (ℕ → Bool) → DailyRuling → Bool
is_own h r = h r.payer

abbrev own : (ℕ → Bool) → List DailyRuling → List DailyRuling
own h xs = filter (is_own h) xs

-- one of other books moves no authorization of these
not_this : (owner : ℕ → ℕ) (h : ℕ → Bool) (a b payer : ℕ) → h (owner a) ≡ true → owner b ≡ payer → h payer ≡ false → (b == a) ≡ false
not_this owner h a b payer is of other = elim (cases_Bool (b == a)) [
  | inl same ↦ absurd (true≢false (sym is ∙ ap (λ (n : ℕ). h (owner n)) (sym (eqb-true b a same)) ∙ ap h of ∙ other))
  | inr not ↦ not
]

other_reverses : (owner : ℕ → ℕ) (h : ℕ → Bool) (a payer : ℕ) (m : Move) → h (owner a) ≡ true → owner (auth_of m) ≡ payer → h payer ≡ false → reverses a m ≡ false
other_reverses owner h a payer (Paid b cents) is of other = refl
other_reverses owner h a payer (Reversed b) is of other = not_this owner h a b payer is of other

gone_own : (owner : ℕ → ℕ) (h : ℕ → Bool) (a : ℕ) → h (owner a) ≡ true → (xs : List DailyRuling) → AreOwned owner xs
    → is_reversed a (moves_of (own h xs)) ≡ is_reversed a (moves_of xs)
gone_own owner h a is [] are = refl
gone_own owner h a is (r ∷ xs) are = elim (cases_Bool (h r.payer)) [
  | inl of ↦ rw of (ap (λ (b : Bool). reverses a r.moves || b) (gone_own owner h a is xs are.1))
  | inr other ↦ rw (other, other_reverses owner h a r.payer r.moves is are.0 other) (gone_own owner h a is xs are.1)
]

other_pays : (owner : ℕ → ℕ) (h : ℕ → Bool) (a payer : ℕ) (m : Move) (more : List Move) → h (owner a) ≡ true → owner (auth_of m) ≡ payer → h payer ≡ false
    → paid_for a (m ∷ more) ≡ paid_for a more
other_pays owner h a payer (Paid b cents) more is of other = ap (λ (t : Bool). cond t (Some cents) (paid_for a more)) (not_this owner h a b payer is of other)
other_pays owner h a payer (Reversed b) more is of other = refl

pays_on : (a : ℕ) (m : Move) (xs ys : List Move) → paid_for a xs ≡ paid_for a ys → paid_for a (m ∷ xs) ≡ paid_for a (m ∷ ys)
pays_on a (Paid b cents) xs ys e = ap (λ (o : Option ℕ). cond (b == a) (Some cents) o) e
pays_on a (Reversed b) xs ys e = e

paid_own : (owner : ℕ → ℕ) (h : ℕ → Bool) (a : ℕ) → h (owner a) ≡ true → (xs : List DailyRuling) → AreOwned owner xs
    → paid_for a (moves_of (own h xs)) ≡ paid_for a (moves_of xs)
paid_own owner h a is [] are = refl
paid_own owner h a is (r ∷ xs) are = elim (cases_Bool (h r.payer)) [
  | inl of ↦ rw of (pays_on a r.moves (moves_of (own h xs)) (moves_of xs) (paid_own owner h a is xs are.1))
  | inr other ↦ rw other (paid_own owner h a is xs are.1 ∙ sym (other_pays owner h a r.payer r.moves (moves_of xs) is are.0 other))
]

-- a sum over the rulings of these books, each figure of which may be taken among all
own_sum : (f g : Move → ℕ) (owner : ℕ → ℕ) (h : ℕ → Bool) → ((m : Move) → h (owner (auth_of m)) ≡ true → f m ≡ g m) → (xs : List DailyRuling) → AreOwned owner xs
    → sum_by f (moves_of (own h xs)) ≡ sum_by (λ (r : DailyRuling). g r.moves) (own h xs)
own_sum f g owner h alike [] are = refl
own_sum f g owner h alike (r ∷ xs) are = elim (cases_Bool (h r.payer)) [
  | inl of ↦
      let first : f r.moves ≡ g r.moves = alike r.moves (ap h are.0 ∙ of) in
      let more = own_sum f g owner h alike xs are.1 in
      let moved = sum_by-cons f r.moves (moves_of (own h xs)) in
      let ruled = sum_by-cons (λ (r : DailyRuling). g r.moves) r (own h xs) in
      rw of (omega (arith, first, more, moved, ruled))
  | inr other ↦ rw other (own_sum f g owner h alike xs are.1)
]

stands_alike : (owner : ℕ → ℕ) (h : ℕ → Bool) (xs : List DailyRuling) → AreOwned owner xs → (m : Move) → h (owner (auth_of m)) ≡ true
    → standing_cents (λ a. is_reversed a (moves_of (own h xs))) m ≡ standing_cents (λ a. is_reversed a (moves_of xs)) m
stands_alike owner h xs are (Paid a cents) is = ap (λ (t : Bool). cond t 0 cents) (gone_own owner h a is xs are)
stands_alike owner h xs are (Reversed a) is = refl

backs_alike : (owner : ℕ → ℕ) (h : ℕ → Bool) (xs : List DailyRuling) → AreOwned owner xs → (m : Move) → h (owner (auth_of m)) ≡ true
    → back_cents (moves_of (own h xs)) m ≡ back_cents (moves_of xs) m
backs_alike owner h xs are (Paid a cents) is = refl
backs_alike owner h xs are (Reversed a) is = ap (λ (o : Option ℕ). unwrap_or o 0) (paid_own owner h a is xs are)

-- ---- rulings that pass two tests

and_swap : (a b : Bool) → (a && b) ≡ (b && a)
and_swap true true = refl
and_swap true false = refl
and_swap false true = refl
and_swap false false = refl

two_tests : {A : Type 0} (p q : A → Bool) (xs : List A) → filter p (filter q xs) ≡ filter q (filter p xs)
two_tests p q xs = sym (both_tests q p xs) ∙ (λ i. filter (λ x. and_swap (q x) (p x) i) xs) ∙ both_tests p q xs

owned_kept : (owner : ℕ → ℕ) (k : DailyRuling → Bool) (xs : List DailyRuling) → AreOwned owner xs → AreOwned owner (filter k xs)
owned_kept owner k [] are = are
owned_kept owner k (r ∷ xs) are = elim (cases_Bool (k r)) [
  | inl is ↦ rw is (are.0, owned_kept owner k xs are.1)
  | inr not ↦ rw not (owned_kept owner k xs are.1)
]

owned_both : (owner : ℕ → ℕ) (xs ys : List DailyRuling) → AreOwned owner xs → AreOwned owner ys → AreOwned owner (xs ++ ys)
owned_both owner [] ys are more = more
owned_both owner (r ∷ xs) ys are more = (are.0, owned_both owner xs ys are.1 more)

-- all rulings up to the end of the days
abbrev reached : DailyRemittance → List DailyRuling → List DailyRuling
reached asked rs = filter (is_before asked) rs ++ within asked rs

earlier_own : (asked : DailyRemittance) (h : ℕ → Bool) (rs : List DailyRuling) → earlier asked (own h rs) ≡ moves_of (own h (filter (is_before asked) rs))
earlier_own asked h rs = ap moves_of (two_tests (is_before asked) (is_own h) rs)

within_own : (asked : DailyRemittance) (h : ℕ → Bool) (rs : List DailyRuling) → within asked (own h rs) ≡ own h (within asked rs)
within_own asked h rs = two_tests (is_within asked) (is_own h) rs

reached_own : (asked : DailyRemittance) (h : ℕ → Bool) (rs : List DailyRuling) → moves_up_to asked (own h rs) ≡ moves_of (own h (reached asked rs))
reached_own asked h rs =
    (λ i. earlier_own asked h rs i ++ moves_of (within_own asked h rs i))
    ∙ sym (map-append (λ (r : DailyRuling). r.moves) (own h (filter (is_before asked) rs)) (own h (within asked rs)))
    ∙ ap moves_of (sym (filter-append (is_own h) (filter (is_before asked) rs) (within asked rs)))

-- ---- the figures, each as a sum over rulings of these books

abbrev stood_cents : List DailyRuling → DailyRuling → ℕ
stood_cents xs r = standing_cents (λ a. is_reversed a (moves_of xs)) r.moves

standing_is : (owner : ℕ → ℕ) (h : ℕ → Bool) (xs : List DailyRuling) → AreOwned owner xs → standing_total (moves_of (own h xs)) ≡ sum_by (stood_cents xs) (own h xs)
standing_is owner h xs are =
    own_sum (standing_cents (λ a. is_reversed a (moves_of (own h xs)))) (standing_cents (λ a. is_reversed a (moves_of xs))) owner h (stands_alike owner h xs are) xs are

stood_is : (asked : DailyRemittance) (owner : ℕ → ℕ) (h : ℕ → Bool) (rs : List DailyRuling) → AreOwned owner rs
    → standing_total (earlier asked (own h rs)) ≡ sum_by (stood_cents (filter (is_before asked) rs)) (own h (filter (is_before asked) rs))
stood_is asked owner h rs are =
    ap standing_total (earlier_own asked h rs) ∙ standing_is owner h (filter (is_before asked) rs) (owned_kept owner (is_before asked) rs are)

owned_reached : (asked : DailyRemittance) (owner : ℕ → ℕ) (rs : List DailyRuling) → AreOwned owner rs → AreOwned owner (reached asked rs)
owned_reached asked owner rs are =
    owned_both owner (filter (is_before asked) rs) (within asked rs) (owned_kept owner (is_before asked) rs are) (owned_kept owner (is_within asked) rs are)

stands_is : (asked : DailyRemittance) (owner : ℕ → ℕ) (h : ℕ → Bool) (rs : List DailyRuling) → AreOwned owner rs
    → standing_total (moves_up_to asked (own h rs)) ≡ sum_by (stood_cents (reached asked rs)) (own h (reached asked rs))
stands_is asked owner h rs are = ap standing_total (reached_own asked h rs) ∙ standing_is owner h (reached asked rs) (owned_reached asked owner rs are)

paid_is : (asked : DailyRemittance) (owner : ℕ → ℕ) (h : ℕ → Bool) (rs : List DailyRuling) → AreOwned owner rs
    → paid_total (moves_of (within asked (own h rs))) ≡ sum_by (λ (r : DailyRuling). paid_cents r.moves) (own h (within asked rs))
paid_is asked owner h rs are =
    ap (λ (xs : List DailyRuling). paid_total (moves_of xs)) (within_own asked h rs)
    ∙ own_sum paid_cents paid_cents owner h (λ m is. refl) (within asked rs) (owned_kept owner (is_within asked) rs are)

abbrev back_of : List DailyRuling → DailyRuling → ℕ
back_of xs r = back_cents (moves_of xs) r.moves

back_is : (asked : DailyRemittance) (owner : ℕ → ℕ) (h : ℕ → Bool) (rs : List DailyRuling) → AreOwned owner rs
    → taken_back (moves_up_to asked (own h rs)) (moves_of (within asked (own h rs))) ≡ sum_by (back_of (reached asked rs)) (own h (within asked rs))
back_is asked owner h rs are =
    (λ i. taken_back (reached_own asked h rs i) (moves_of (within_own asked h rs i)))
    ∙ own_sum (back_cents (moves_of (own h (reached asked rs)))) (back_cents (moves_of (reached asked rs))) owner h
    (backs_alike owner h (reached asked rs) (owned_reached asked owner rs are)) (within asked rs) (owned_kept owner (is_within asked) rs are)

-- ---- together

split_rulings : (f : DailyRuling → ℕ) (all these those : List Span) → AreSplit all these those → (xs : List DailyRuling)
    → sum_by f (rulings_of all xs) ≡ sum_by f (rulings_of these xs) + sum_by f (rulings_of those xs)
split_rulings f all these those split xs =
    split_sum f (is_own (has all)) (is_own (has these)) (is_own (has those)) (λ r. split.each r.payer) (λ r. split.apart r.payer) xs

pub remit_together : (asked : DailyRemittance) (owner : ℕ → ℕ) (all these those : List Span) (rulings : List DailyRuling) → AreSplit all these those → AreOwned owner rulings
    → RemitTogether asked rulings all these those
remit_together asked owner all these those rulings split are = record {
  stood =
      let a = stood_is asked owner (has all) rulings are in
      let b = stood_is asked owner (has these) rulings are in
      let c = stood_is asked owner (has those) rulings are in
      let s = split_rulings (stood_cents (filter (is_before asked) rulings)) all these those split (filter (is_before asked) rulings) in
      omega (arith, a, b, c, s);
  paid =
      let a = paid_is asked owner (has all) rulings are in
      let b = paid_is asked owner (has these) rulings are in
      let c = paid_is asked owner (has those) rulings are in
      let s = split_rulings (λ (r : DailyRuling). paid_cents r.moves) all these those split (within asked rulings) in
      omega (arith, a, b, c, s);
  back =
      let a = back_is asked owner (has all) rulings are in
      let b = back_is asked owner (has these) rulings are in
      let c = back_is asked owner (has those) rulings are in
      let s = split_rulings (back_of (reached asked rulings)) all these those split (within asked rulings) in
      omega (arith, a, b, c, s);
  stands =
      let a = stands_is asked owner (has all) rulings are in
      let b = stands_is asked owner (has these) rulings are in
      let c = stands_is asked owner (has those) rulings are in
      let s = split_rulings (stood_cents (reached asked rulings)) all these those split (reached asked rulings) in
      omega (arith, a, b, c, s);
}
