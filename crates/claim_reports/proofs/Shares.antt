-- Sums over books that are split into two parts.
use Rattle.std.proofs.Common.{◌≡◌, ℕ, ◌+◌, Bool, true, false, cond, List, [], ◌∷◌, refl, sym, ap, ◌∙◌, inl, inr, arith}
use Rattle.std.specs.Prelude.{◌&&◌, ◌||◌, Option, Some, None, filter}
use Rattle.std.specs.List.{sum_by}
use Rattle.std.proofs.lemmas.Bool.{cases_Bool}
use Rattle.std.proofs.lemmas.List.Sums.{sum_by-cons}
use Rattle.claim_reports.specs.declared.books.Span.{Span}
use Rattle.claim_reports.specs.declared.choice.Choice.{Choice}
use Rattle.claim_reports.specs.declared.choice.Paid.{Paid}
use Rattle.claim_reports.specs.declared.totals.By.{By}
use Rattle.claim_reports.specs.declared.totals.Sums.{Sums}
use Rattle.claim_reports.specs.BookLaws.{AreSplit, added, of_all, of_books, paid_of, total_over}
use Rattle.claim_reports.specs.Shelves.{has}
use Rattle.claim_reports.specs.Totals.{cents_if, is_at_key, is_chosen, is_from, is_number, is_to, one_if, sums_of, total_at, sums_or_none}
use Rattle.claim_reports.proofs.Adding.{or_none}

-- what one element adds
one_more : {A : Type 0} (f : A → ℕ) (x : A) (b : Bool) (xs : List A) → sum_by f (cond b (x ∷ xs) xs) ≡ cond b (f x) 0 + sum_by f xs
one_more f x true xs = omega (arith, sum_by-cons f x xs)
one_more f x false xs = omega arith

either : (p q : Bool) (n : ℕ) → (p && q) ≡ false → cond (p || q) n 0 ≡ cond p n 0 + cond q n 0
either true true n e = absurd (cc e)
either true false n e = omega arith
either false true n e = omega arith
either false false n e = omega arith

-- a sum over elements of either kind, where none is of both
pub split_sum : {A : Type 0} (f : A → ℕ) (r p q : A → Bool) → ((x : A) → r x ≡ (p x || q x)) → ((x : A) → (p x && q x) ≡ false) → (xs : List A)
    → sum_by f (filter r xs) ≡ sum_by f (filter p xs) + sum_by f (filter q xs)
split_sum f r p q each apart [] = refl
split_sum f r p q each apart (x ∷ xs) =
    let more = split_sum f r p q each apart xs in
    let all = one_more f x (r x) (filter r xs) in
    let these = one_more f x (p x) (filter p xs) in
    let those = one_more f x (q x) (filter q xs) in
    let own : cond (r x) (f x) 0 ≡ cond (p x) (f x) 0 + cond (q x) (f x) 0 = ap (λ (b : Bool). cond b (f x) 0) (each x) ∙ either (p x) (q x) (f x) (apart x) in
    omega (arith, more, all, these, those, own)

-- a sum over those that pass, as one over all
kept_sum : {A : Type 0} (f : A → ℕ) (k : A → Bool) (xs : List A) → sum_by f (filter k xs) ≡ sum_by (λ x. cond (k x) (f x) 0) xs
kept_sum f k [] = refl
kept_sum f k (x ∷ xs) =
    let more = kept_sum f k xs in
    let these = one_more f x (k x) (filter k xs) in
    let all = sum_by-cons (λ y. cond (k y) (f y) 0) x xs in
    omega (arith, more, these, all)

-- the same of those that pass a further test
pub split_kept : {A : Type 0} (f : A → ℕ) (k r p q : A → Bool) → ((x : A) → r x ≡ (p x || q x)) → ((x : A) → (p x && q x) ≡ false) → (xs : List A)
    → sum_by f (filter k (filter r xs)) ≡ sum_by f (filter k (filter p xs)) + sum_by f (filter k (filter q xs))
split_kept f k r p q each apart xs =
    let all = kept_sum f k (filter r xs) in
    let these = kept_sum f k (filter p xs) in
    let those = kept_sum f k (filter q xs) in
    let split = split_sum (λ x. cond (k x) (f x) 0) r p q each apart xs in
    omega (arith, all, these, those, split)

or_and : (a b t : Bool) → ((a || b) && t) ≡ ((a && t) || (b && t))
or_and true true true = refl
or_and true true false = refl
or_and true false true = refl
or_and true false false = refl
or_and false true true = refl
or_and false true false = refl
or_and false false true = refl
or_and false false false = refl

and_apart : (a b t : Bool) → (a && b) ≡ false → ((a && t) && (b && t)) ≡ false
and_apart true true t e = absurd (cc e)
and_apart true false true e = refl
and_apart true false false e = refl
and_apart false b t e = refl

-- what else a choice asks of a payment
abbrev rest_of : Choice → Paid → Bool
rest_of c p = is_number c.pharmacy p.pharmacy && (is_from c.from p.day && is_to c.to p.day)

each_chosen : (c : Choice) (all these those : List Span) → AreSplit all these those → (p : Paid)
    → is_chosen (of_books c all) p ≡ (is_chosen (of_books c these) p || is_chosen (of_books c those) p)
each_chosen c all these those split p =
    ap (λ (b : Bool). b && rest_of c p) (split.each p.payer) ∙ or_and (has these p.payer) (has those p.payer) (rest_of c p)

apart_chosen : (c : Choice) (all these those : List Span) → AreSplit all these those → (p : Paid)
    → (is_chosen (of_books c these) p && is_chosen (of_books c those) p) ≡ false
apart_chosen c all these those split p = and_apart (has these p.payer) (has those p.payer) (rest_of c p) (split.apart p.payer)

figure_over : (f : Paid → ℕ) (by : By) (key : Option ℕ) (c : Choice) (all these those : List Span) (paid : List Paid) → AreSplit all these those
    → sum_by f (filter (is_at_key by key) (filter (is_chosen (of_books c all)) paid))
    ≡ sum_by f (filter (is_at_key by key) (filter (is_chosen (of_books c these)) paid)) + sum_by f (filter (is_at_key by key) (filter (is_chosen (of_books c those)) paid))
figure_over f by key c all these those paid split =
    split_kept f (is_at_key by key) (is_chosen (of_books c all)) (is_chosen (of_books c these)) (is_chosen (of_books c those))
    (each_chosen c all these those split) (apart_chosen c all these those split) paid

-- the payments of a number over these books
abbrev at_key : By → Option ℕ → Choice → List Paid → List Span → List Paid
at_key by key c paid books = filter (is_at_key by key) (filter (is_chosen (of_books c books)) paid)

pub totals_together : (by : By) (key : Option ℕ) (c : Choice) (all these those : List Span) (paid : List Paid) → AreSplit all these those
    → total_over by key c paid all ≡ added (total_over by key c paid these) (total_over by key c paid those)
totals_together by key c all these those paid split =
    or_none (at_key by key c paid all)
    ∙ (λ i. record {
      count = figure_over (one_if false) by key c all these those paid split i;
      cents = figure_over (cents_if false) by key c all these those paid split i;
      reversed_count = figure_over (one_if true) by key c all these those paid split i;
      reversed_cents = figure_over (cents_if true) by key c all these those paid split i;
    })
    ∙ (λ i. added (sym (or_none (at_key by key c paid these)) i) (sym (or_none (at_key by key c paid those)) i))

-- those that are chosen over some books are those that are chosen of the payments of these
pub both_tests : {A : Type 0} (p q : A → Bool) (xs : List A) → filter (λ x. p x && q x) xs ≡ filter q (filter p xs)
both_tests p q [] = refl
both_tests p q (x ∷ xs) = elim (cases_Bool (p x)) [
  | inl is ↦ rw is (ap (λ ys. cond (q x) (x ∷ ys) ys) (both_tests p q xs))
  | inr not ↦ rw not (both_tests p q xs)
]

pub members_chosen : (c : Choice) (books : List Span) (paid : List Paid) → filter (is_chosen (of_books c books)) paid ≡ filter (is_chosen (of_all c)) (paid_of books paid)
members_chosen c books paid = both_tests (λ (p : Paid). has books p.payer) (rest_of c) paid
