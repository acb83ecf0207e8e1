-- What is said of rulings after one ruling more.
use Rattle.std.proofs.Common.{◌≡◌, ℕ, ◌+◌, ◌==◌, Bool, true, false, cond, List, [], ◌∷◌, ◌++◌, refl, sym, ap, ◌∙◌, inl, inr, arith}
use Rattle.std.specs.Prelude.{◌||◌, Option, Some, None}
use Rattle.std.specs.Option.{option_or}
use Rattle.std.specs.List.{sum_by}
use Rattle.std.proofs.lemmas.Bool.{cases_Bool, eqb-true, eqb-false, eq-eqb, ne_eqb, or_right}
use Rattle.std.proofs.lemmas.List.Folds.{list_any-append}
use Rattle.std.proofs.lemmas.List.Sums.{sum_by-append}
use Rattle.claim_reports.specs.declared.ledger.Move.{Move}
use Rattle.claim_reports.specs.declared.ledger.Move.TheVariants.{Paid, Reversed}
use Rattle.claim_reports.specs.Ledger.{paid_for, reverses, is_reversed, standing_cents, PaidOnce}
use Rattle.claim_reports.proofs.Readings.{some_is}

-- what was paid stays so
pub paid_stays : (q : ℕ) (xs ys : List Move) (c : ℕ) → paid_for q xs ≡ Some c → paid_for q (xs ++ ys) ≡ Some c
paid_stays q [] ys c e = cc e
paid_stays q (Paid a k ∷ more) ys c e = elim (cases_Bool (a == q)) [
  | inl same ↦ rw same (rw same at e)
  | inr other ↦ rw other (paid_stays q more ys c (rw other at e))
]
paid_stays q (Reversed a ∷ more) ys c e = paid_stays q more ys c e

none_before : (q : ℕ) (xs ys : List Move) (o : Option ℕ) → paid_for q xs ≡ o → paid_for q (xs ++ ys) ≡ None → paid_for q xs ≡ None
none_before q xs ys None is e = is
none_before q xs ys (Some c) is e = cc (sym (paid_stays q xs ys c is) ∙ e)

pub not_paid_before : (q : ℕ) (xs ys : List Move) → paid_for q (xs ++ ys) ≡ None → paid_for q xs ≡ None
not_paid_before q xs ys e = none_before q xs ys (paid_for q xs) refl e

pub paid_behind_payment : (q a k : ℕ) (xs : List Move) → paid_for q (xs ++ Paid a k ∷ []) ≡ option_or (paid_for q xs) (cond (a == q) (Some k) None)
paid_behind_payment q a k [] = refl
paid_behind_payment q a k (Paid b n ∷ more) = elim (cases_Bool (b == q)) [
  | inl same ↦ rw same refl
  | inr other ↦ rw other (paid_behind_payment q a k more)
]
paid_behind_payment q a k (Reversed b ∷ more) = paid_behind_payment q a k more

pub paid_behind_reversal : (q a : ℕ) (xs : List Move) → paid_for q (xs ++ Reversed a ∷ []) ≡ paid_for q xs
paid_behind_reversal q a [] = refl
paid_behind_reversal q a (Paid b n ∷ more) = ap (λ (o : Option ℕ). cond (b == q) (Some n) o) (paid_behind_reversal q a more)
paid_behind_reversal q a (Reversed b ∷ more) = paid_behind_reversal q a more

pub or_none : {A : Type 0} (o : Option A) → option_or o None ≡ o
or_none None = refl
or_none (Some c) = refl

-- a payment under another authorization
pub paid_behind_other : (q a k : ℕ) (xs : List Move) → (a == q) ≡ false → paid_for q (xs ++ Paid a k ∷ []) ≡ paid_for q xs
paid_behind_other q a k xs other =
    paid_behind_payment q a k xs ∙ (ap (λ (b : Bool). option_or (paid_for q xs) (cond b (Some k) None)) other ∙ or_none (paid_for q xs))

-- and under this one, for the first time
pub paid_behind_own : (a k : ℕ) (xs : List Move) → paid_for a xs ≡ None → paid_for a (xs ++ Paid a k ∷ []) ≡ Some k
paid_behind_own a k xs none =
    paid_behind_payment a a k xs
    ∙ (ap (λ (o : Option ℕ). option_or o (cond (a == a) (Some k) None)) none ∙ ap (λ (b : Bool). cond b (Some k) None) (eq-eqb a a refl))

or_false : (b : Bool) → (b || false) ≡ b
or_false true = refl
or_false false = refl

pub reversed_behind_payment : (q a k : ℕ) (xs : List Move) → is_reversed q (xs ++ Paid a k ∷ []) ≡ is_reversed q xs
reversed_behind_payment q a k xs = list_any-append (reverses q) xs (Paid a k ∷ []) ∙ or_false (is_reversed q xs)

pub reversed_behind : (q a : ℕ) (xs : List Move) → is_reversed q (xs ++ Reversed a ∷ []) ≡ (is_reversed q xs || (a == q))
reversed_behind q a xs = list_any-append (reverses q) xs (Reversed a ∷ []) ∙ ap (λ (b : Bool). is_reversed q xs || b) (or_false (a == q))

pub reversed_behind_other : (q a : ℕ) (xs : List Move) → (a == q) ≡ false → is_reversed q (xs ++ Reversed a ∷ []) ≡ is_reversed q xs
reversed_behind_other q a xs other = reversed_behind q a xs ∙ (ap (λ (b : Bool). is_reversed q xs || b) other ∙ or_false (is_reversed q xs))

pub reversed_behind_own : (a : ℕ) (xs : List Move) → is_reversed a (xs ++ Reversed a ∷ []) ≡ true
reversed_behind_own a xs = reversed_behind a a xs ∙ or_right (is_reversed a xs) (a == a) (eq-eqb a a refl)

-- ---- paid once

other_way : (a b : ℕ) → (a == b) ≡ false → (b == a) ≡ false
other_way a b other = ne_eqb b a (λ (e : b ≡ a). eqb-false a b other (sym e))

pub once_behind_payment : (a k : ℕ) (xs : List Move) → PaidOnce xs → paid_for a xs ≡ None → PaidOnce (xs ++ Paid a k ∷ [])
once_behind_payment a k [] once none = (refl, tt)
once_behind_payment a k (Paid b n ∷ more) once none = elim (cases_Bool (b == a)) [
  | inl same ↦ absurd (cc (rw same at none))
  | inr other ↦ (paid_behind_other b a k more (other_way b a other) ∙ once.0, once_behind_payment a k more once.1 (rw other at none))
]
once_behind_payment a k (Reversed b ∷ more) once none = once_behind_payment a k more once none

pub once_behind_reversal : (a : ℕ) (xs : List Move) → PaidOnce xs → PaidOnce (xs ++ Reversed a ∷ [])
once_behind_reversal a [] once = tt
once_behind_reversal a (Paid b n ∷ more) once = (paid_behind_reversal b a more ∙ once.0, once_behind_reversal a more once.1)
once_behind_reversal a (Reversed b ∷ more) once = once_behind_reversal a more once

-- ---- what stands

-- the first of some rulings, and the others
first_of_all : (f : Move → ℕ) (m : Move) (xs : List Move) → sum_by f (m ∷ xs) ≡ f m + sum_by f xs
first_of_all f m xs = sum_by-append f (m ∷ []) xs ∙ omega arith

-- payments that are gone alike stand alike
pub standing_alike : (gone other : ℕ → Bool) (xs : List Move) → ((q : ℕ) → gone q ≡ other q) → sum_by (standing_cents gone) xs ≡ sum_by (standing_cents other) xs
standing_alike gone other xs alike = ap (λ (f : ℕ → Bool). sum_by (standing_cents f) xs) (λ i. λ q. alike q i)

-- a payment that is not among these goes
standing_apart : (gone other : ℕ → Bool) (a : ℕ) (xs : List Move) → ((q : ℕ) → (a == q) ≡ false → other q ≡ gone q) → paid_for a xs ≡ None
    → sum_by (standing_cents other) xs ≡ sum_by (standing_cents gone) xs
standing_apart gone other a [] alike none = refl
standing_apart gone other a (Paid b n ∷ more) alike none = elim (cases_Bool (b == a)) [
  | inl same ↦ absurd (cc (rw same at none))
  | inr apart ↦
      let rest = standing_apart gone other a more alike (rw apart at none) in
      let same : cond (other b) 0 n ≡ cond (gone b) 0 n = ap (λ (g : Bool). cond g 0 n) (alike b (other_way b a apart)) in
      let left : sum_by (standing_cents other) (Paid b n ∷ more) ≡ cond (other b) 0 n + sum_by (standing_cents other) more = first_of_all (standing_cents other) (Paid b n) more in
      let right : sum_by (standing_cents gone) (Paid b n ∷ more) ≡ cond (gone b) 0 n + sum_by (standing_cents gone) more = first_of_all (standing_cents gone) (Paid b n) more in
      omega (arith, rest, same, left, right)
]
standing_apart gone other a (Reversed b ∷ more) alike none =
    let rest = standing_apart gone other a more alike none in
    let left : sum_by (standing_cents other) (Reversed b ∷ more) ≡ 0 + sum_by (standing_cents other) more = first_of_all (standing_cents other) (Reversed b) more in
    let right : sum_by (standing_cents gone) (Reversed b ∷ more) ≡ 0 + sum_by (standing_cents gone) more = first_of_all (standing_cents gone) (Reversed b) more in
    omega (arith, rest, left, right)

-- a payment of these goes
pub standing_less : (gone other : ℕ → Bool) (a c : ℕ) (xs : List Move) → ((q : ℕ) → (a == q) ≡ false → other q ≡ gone q) → gone a ≡ false → other a ≡ true
    → PaidOnce xs → paid_for a xs ≡ Some c → sum_by (standing_cents other) xs + c ≡ sum_by (standing_cents gone) xs
standing_less gone other a c [] alike stood goes once paid = cc paid
standing_less gone other a c (Paid b n ∷ more) alike stood goes once paid = elim (cases_Bool (b == a)) [
  | inl same ↦
      let here : b ≡ a = eqb-true b a same in
      let cents : n ≡ c = some_is n c (rw same at paid) in
      let rest = standing_apart gone other a more alike (ap (λ (q : ℕ). paid_for q more) (sym here) ∙ once.0) in
      let less : cond (other b) 0 n ≡ 0 = ap (λ (q : ℕ). cond (other q) 0 n) here ∙ ap (λ (g : Bool). cond g 0 n) goes in
      let was : cond (gone b) 0 n ≡ n = ap (λ (q : ℕ). cond (gone q) 0 n) here ∙ ap (λ (g : Bool). cond g 0 n) stood in
      let left : sum_by (standing_cents other) (Paid b n ∷ more) ≡ cond (other b) 0 n + sum_by (standing_cents other) more = first_of_all (standing_cents other) (Paid b n) more in
      let right : sum_by (standing_cents gone) (Paid b n ∷ more) ≡ cond (gone b) 0 n + sum_by (standing_cents gone) more = first_of_all (standing_cents gone) (Paid b n) more in
      omega (arith, cents, rest, less, was, left, right)
  | inr apart ↦
      let rest = standing_less gone other a c more alike stood goes once.1 (rw apart at paid) in
      let same : cond (other b) 0 n ≡ cond (gone b) 0 n = ap (λ (g : Bool). cond g 0 n) (alike b (other_way b a apart)) in
      let left : sum_by (standing_cents other) (Paid b n ∷ more) ≡ cond (other b) 0 n + sum_by (standing_cents other) more = first_of_all (standing_cents other) (Paid b n) more in
      let right : sum_by (standing_cents gone) (Paid b n ∷ more) ≡ cond (gone b) 0 n + sum_by (standing_cents gone) more = first_of_all (standing_cents gone) (Paid b n) more in
      omega (arith, rest, same, left, right)
]
standing_less gone other a c (Reversed b ∷ more) alike stood goes once paid =
    let rest = standing_less gone other a c more alike stood goes once paid in
    let left : sum_by (standing_cents other) (Reversed b ∷ more) ≡ 0 + sum_by (standing_cents other) more = first_of_all (standing_cents other) (Reversed b) more in
    let right : sum_by (standing_cents gone) (Reversed b ∷ more) ≡ 0 + sum_by (standing_cents gone) more = first_of_all (standing_cents gone) (Reversed b) more in
    omega (arith, rest, left, right)
