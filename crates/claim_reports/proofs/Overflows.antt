-- Sums of more than 64 bits stay so.
use Rattle.std.proofs.lemmas.List.{take-append-drop}
use Rattle.std.proofs.Common.{◌≡◌, ◌<◌, ◌≤◌, ℕ, ◌+◌, ◌^◌, Bool, true, false, List, [], ◌∷◌, ◌++◌, length, get_or, take, drop, append-nil, refl, sym, ap, subst, ◌∙◌, inl, inr, arith}
use Rattle.std.specs.Prelude.{◌||◌, Option, Some, None, filter, nat_eq, nat_le, if◌then◌else◌}
use Rattle.std.specs.Option.{option_eq}
use Rattle.std.specs.BTreeMap.{BTreeMap, get}
use Rattle.std.specs.List.{list_any, sum_by}
use Rattle.std.proofs.lemmas.Bool.{cases_Bool, eq-eqb, leb-true, le-leb}
use Rattle.std.proofs.lemmas.List.{take_all, take_more}
use Rattle.std.proofs.lemmas.List.Elements.{filter-append}
use Rattle.std.proofs.lemmas.List.Folds.{list_any_at}
use Rattle.std.proofs.lemmas.List.Sums.{sum_by-append}
use Rattle.claim_reports.specs.declared.fault.ReportFault.{ReportFault}
use Rattle.claim_reports.specs.declared.choice.Paid.{Paid}
use Rattle.claim_reports.specs.declared.totals.By.{By}
use Rattle.claim_reports.specs.declared.totals.Sums.{Sums}
use Rattle.claim_reports.specs.Causes.{Tells, TooLarge}
use Rattle.claim_reports.specs.Totals.{key_of, key_cmp, one_if, cents_if, sums_of, with_payment, sums_or_none, is_at_key, total_at, is_too_large, adding_cause, sums_cause}
use Rattle.claim_reports.proofs.Adding.{or_none, same_key, sums_more}
use Rattle.claim_reports.proofs.Telling.{tells_none, tells_same}

-- ---- one more

limit_more : (a b : ℕ) → nat_le (2 ^ 64) a ≡ true → nat_le (2 ^ 64) (a + b) ≡ true
limit_more a b e = let le = leb-true (2 ^ 64) a e in le-leb (2 ^ 64) (a + b) (omega (arith, le))

or_more : (p q r s : Bool) → (p ≡ true → r ≡ true) → (q ≡ true → s ≡ true) → (p || q) ≡ true → (r || s) ≡ true
or_more true q r s left right e = rw (left refl) refl
or_more false q true s left right e = refl
or_more false q false s left right e = right e

-- a sum of some payments, and of more
sum_more : (f : Paid → ℕ) (xs ys : List Paid) → nat_le (2 ^ 64) (sum_by f xs) ≡ true → nat_le (2 ^ 64) (sum_by f (xs ++ ys)) ≡ true
sum_more f xs ys e = rw (sum_by-append f xs ys) (limit_more (sum_by f xs) (sum_by f ys) e)

large_more : (xs ys : List Paid) → is_too_large (sums_of xs) ≡ true → is_too_large (sums_of (xs ++ ys)) ≡ true
large_more xs ys e =
    or_more _ _ _ _ (sum_more (one_if false) xs ys)
    (λ r. or_more _ _ _ _ (sum_more (cents_if false) xs ys) (λ s. or_more _ _ _ _ (sum_more (one_if true) xs ys) (sum_more (cents_if true) xs ys) s) r) e

-- ---- the payments of a number

at_key_more : (by : By) (key : Option ℕ) (paid : List Paid) (p : Paid) → is_at_key by key p ≡ true
    → sums_of (filter (is_at_key by key) (paid ++ p ∷ [])) ≡ with_payment (sums_of (filter (is_at_key by key) paid)) p
at_key_more by key paid p same = rw (filter-append (is_at_key by key) paid (p ∷ []), same) (sums_more (filter (is_at_key by key) paid) p)

at_key_other : (by : By) (key : Option ℕ) (paid : List Paid) (p : Paid) → is_at_key by key p ≡ false → filter (is_at_key by key) (paid ++ p ∷ []) ≡ filter (is_at_key by key) paid
at_key_other by key paid p other = rw (filter-append (is_at_key by key) paid (p ∷ []), other) (append-nil (filter (is_at_key by key) paid))

own_key : (k : Option ℕ) → option_eq nat_eq k k ≡ true
own_key None = refl
own_key (Some n) = eq-eqb n n refl

-- ---- what is wrong

cause_is : (b : Bool) → (if b then Some TooLarge else None) ≡ None → b ≡ false
cause_is true e = absurd (cc e)
cause_is false e = refl

tells_if : (e : ReportFault) (a b : Bool) → (a ≡ true → b ≡ true) → Tells e (if a then Some TooLarge else None) → Tells e (if b then Some TooLarge else None)
tells_if e true b more is = tells_same e _ _ (ap (λ (c : Bool). if c then Some TooLarge else None) (more refl)) is
tells_if e false true more is = tells_none e _ is
tells_if e false false more is = is

-- the sums of each number fit, of the payments so far
abbrev pub Fit : By → List Paid → Type 0
Fit by paid = (key : Option ℕ) → is_too_large (sums_of (filter (is_at_key by key) paid)) ≡ false

fit_more : (by : By) (paid : List Paid) (p : Paid) → is_too_large (with_payment (sums_of (filter (is_at_key by (key_of by p)) paid)) p) ≡ false → Fit by paid → Fit by (paid ++ p ∷ [])
fit_more by paid p fits before key = elim (cases_Bool (is_at_key by key p)) [
  | inl same ↦
      ap is_too_large (at_key_more by key paid p same)
      ∙ subst (λ (k : Option ℕ). is_too_large (with_payment (sums_of (filter (is_at_key by k) paid)) p) ≡ false) (same_key (key_of by p) key same) fits
  | inr other ↦ ap (λ (xs : List Paid). is_too_large (sums_of xs)) (at_key_other by key paid p other) ∙ before key
]

was : (by : By) (totals : BTreeMap (Option ℕ) Sums) (paid : List Paid) → ((key : Option ℕ) → get key_cmp totals key ≡ total_at by key paid) → (key : Option ℕ)
    → sums_or_none (get key_cmp totals key) ≡ sums_of (filter (is_at_key by key) paid)
was by totals paid each key = ap sums_or_none (each key) ∙ or_none (filter (is_at_key by key) paid)

pub fits_on : (by : By) (paid : List Paid) (i : ℕ) (d : Paid) (old : BTreeMap (Option ℕ) Sums) → i < length paid
    → adding_cause (sums_or_none (get key_cmp old (key_of by (get_or paid i d)))) (get_or paid i d) ≡ None
    → ((key : Option ℕ) → get key_cmp old key ≡ total_at by key (take i paid)) → Fit by (take i paid) → Fit by (take (i + 1) paid)
fits_on by paid i d old lt none each before =
    let p = get_or paid i d in
    subst (λ (xs : List Paid). Fit by xs) (sym (take_more paid i d lt))
    (fit_more by (take i paid) p
    (ap (λ (s : Sums). is_too_large (with_payment s p)) (sym (was by old (take i paid) each (key_of by p)))
    ∙ cause_is (is_too_large (with_payment (sums_or_none (get key_cmp old (key_of by p))) p)) none) before)

-- some payment's number has sums that are too large
large_at : (by : By) (paid : List Paid) (i : ℕ) (d : Paid) → i < length paid → is_too_large (with_payment (sums_of (filter (is_at_key by (key_of by (get_or paid i d))) (take i paid))) (get_or paid i d)) ≡ true
    → list_any (λ (p : Paid). is_too_large (sums_of (filter (is_at_key by (key_of by p)) paid))) paid ≡ true
large_at by paid i d lt large =
    let p = get_or paid i d in
    let key = key_of by p in
    let now : is_too_large (sums_of (filter (is_at_key by key) (take (i + 1) paid))) ≡ true =
    ap (λ (xs : List Paid). is_too_large (sums_of (filter (is_at_key by key) xs))) (take_more paid i d lt) ∙ ap is_too_large (at_key_more by key (take i paid) p (own_key key)) ∙ large in
    let all : filter (is_at_key by key) paid ≡ filter (is_at_key by key) (take (i + 1) paid) ++ filter (is_at_key by key) (drop (i + 1) paid) =
    ap (filter (is_at_key by key)) (sym (take-append-drop (i + 1) paid)) ∙ filter-append (is_at_key by key) (take (i + 1) paid) (drop (i + 1) paid) in
    list_any_at (λ (q : Paid). is_too_large (sums_of (filter (is_at_key by (key_of by q)) paid))) paid i d lt
    (ap (λ (xs : List Paid). is_too_large (sums_of xs)) all ∙ large_more (filter (is_at_key by key) (take (i + 1) paid)) (filter (is_at_key by key) (drop (i + 1) paid)) now)

pub large_here : (e : ReportFault) (by : By) (paid : List Paid) (i : ℕ) (d : Paid) (old : BTreeMap (Option ℕ) Sums) → i < length paid
    → Tells e (adding_cause (sums_or_none (get key_cmp old (key_of by (get_or paid i d)))) (get_or paid i d))
    → ((key : Option ℕ) → get key_cmp old key ≡ total_at by key (take i paid)) → Tells e (sums_cause by paid)
unfolding sums_cause
large_here e by paid i d old lt is each =
    let p = get_or paid i d in
    tells_if e (is_too_large (with_payment (sums_or_none (get key_cmp old (key_of by p))) p)) _
    (λ large. large_at by paid i d lt (ap (λ (s : Sums). is_too_large (with_payment s p)) (sym (was by old (take i paid) each (key_of by p))) ∙ large)) is

none_any : (f : Paid → Bool) (paid : List Paid) → ((p : Paid) → f p ≡ false) → list_any f paid ≡ false
none_any f [] none = refl
none_any f (p ∷ more) none = rw (none p) (none_any f more none)

pub all_fit : (by : By) (paid : List Paid) (i : ℕ) → length paid ≤ i → Fit by (take i paid) → sums_cause by paid ≡ None
unfolding sums_cause
all_fit by paid i le fits =
    let whole : Fit by paid = subst (λ (xs : List Paid). Fit by xs) (take_all i paid le) fits in
    rw (none_any (λ (p : Paid). is_too_large (sums_of (filter (is_at_key by (key_of by p)) paid))) paid (λ p. whole (key_of by p))) refl
