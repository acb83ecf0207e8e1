-- One payment more.
use Rattle.std.proofs.Common.{Less, Greater, ◌≡◌, ◌<◌, ℕ, ◌+◌, ◌==◌, Bool, true, false, cond, List, [], ◌∷◌, ◌++◌, length, get_or, take, append-nil, refl, sym, ap, subst, ◌∙◌, inl, inr, arith}
use Rattle.std.specs.Prelude.{Option, Some, None, filter, nat_eq, option_map, unwrap_or}
use Rattle.std.specs.Option.{option_eq}
use Rattle.std.specs.Ordering.{nat_cmp, is_eq}
use Rattle.std.specs.Cmp.{nat_cmp_is}
use Rattle.std.specs.Cmp.Lexicographic.{options_total}
use Rattle.std.specs.List.{sum_by}
use Rattle.std.specs.Map.{values_of}
use Rattle.std.specs.BTreeMap.{BTreeMap, get, is_at}
use Rattle.std.proofs.lemmas.Bool.{cases_Bool, cases_lt, eqb-true}
use Rattle.std.proofs.lemmas.Cmp.{nat_cmp_total}
use Rattle.std.proofs.lemmas.List.{take_more}
use Rattle.std.proofs.lemmas.List.Elements.{filter-append}
use Rattle.std.proofs.lemmas.List.Sums.{sum_by-append}
use Rattle.std.proofs.lemmas.Map.Entries.{sum_by-insert_entry}
use Rattle.claim_reports.specs.declared.choice.Paid.{Paid}
use Rattle.claim_reports.specs.declared.totals.By.{By}
use Rattle.claim_reports.specs.declared.totals.Sums.{Sums}
use Rattle.claim_reports.specs.Totals.{key_of, key_cmp, one_if, cents_if, sums_of, with_payment, sums_or_none, total_of, is_at_key, total_at, AddsPayment, AddUp}

-- a figure of one payment more
figure_more : (f : Paid → ℕ) (paid : List Paid) (p : Paid) → sum_by f (paid ++ p ∷ []) ≡ sum_by f paid + f p
figure_more f paid p = sum_by-append f paid (p ∷ []) ∙ omega arith

pub sums_more : (paid : List Paid) (p : Paid) → sums_of (paid ++ p ∷ []) ≡ with_payment (sums_of paid) p
sums_more paid p = λ i. record {
  count = figure_more (one_if false) paid p i;
  cents = figure_more (cents_if false) paid p i;
  reversed_count = figure_more (one_if true) paid p i;
  reversed_cents = figure_more (cents_if true) paid p i;
}

total_is : (paid : List Paid) (p : Paid) → total_of (paid ++ p ∷ []) ≡ Some (sums_of (paid ++ p ∷ []))
total_is [] p = refl
total_is (q ∷ more) p = refl

pub or_none : (paid : List Paid) → sums_or_none (total_of paid) ≡ sums_of paid
or_none [] = refl
or_none (q ∷ more) = refl

pub total_more : (paid : List Paid) (p : Paid) → total_of (paid ++ p ∷ []) ≡ Some (with_payment (sums_or_none (total_of paid)) p)
total_more paid p = total_is paid p ∙ ap (λ (s : Sums). Some s) (sums_more paid p ∙ ap (λ (s : Sums). with_payment s p) (sym (or_none paid)))

-- the sums of a number after one payment more
pub total_at_more : (by : By) (key : Option ℕ) (paid : List Paid) (p : Paid)
    → total_at by key (paid ++ p ∷ []) ≡ cond (is_at_key by key p) (Some (with_payment (sums_or_none (total_at by key paid)) p)) (total_at by key paid)
total_at_more by key paid p = elim (cases_Bool (is_at_key by key p)) [
  | inl same ↦ rw (filter-append (is_at_key by key) paid (p ∷ []), same) (total_more (filter (is_at_key by key) paid) p)
  | inr other ↦ rw (filter-append (is_at_key by key) paid (p ∷ []), other) (ap total_of (append-nil (filter (is_at_key by key) paid)))
]

-- what a map has at a number after a change at another
pub apart_at : (k q : ℕ) → (k ≡ q → ⊥) → is_at (nat_cmp k) q ≡ false
apart_at k q apart = elim (cases_lt k q) [
  | inl below ↦ ap is_eq (sym (nat_cmp_is k q Less below))
  | inr above ↦ ap is_eq (sym (nat_cmp_is k q Greater (omega (arith, above, apart))))
]

-- numbers, or none, compare as equal where they are
pub at_nat : (k q : ℕ) → is_at (nat_cmp k) q ≡ (k == q)
at_nat k q = grind arith

at_key : (k q : Option ℕ) → is_at (key_cmp k) q ≡ option_eq nat_eq k q
at_key None None = refl
at_key None (Some n) = refl
at_key (Some m) None = refl
at_key (Some m) (Some n) = at_nat m n

pub same_key : (k q : Option ℕ) → option_eq nat_eq k q ≡ true → k ≡ q
same_key None None e = refl
same_key None (Some n) e = cc e
same_key (Some m) None e = cc e
same_key (Some m) (Some n) e = ap (λ (k : ℕ). Some k) (eqb-true m n e)

each_at : (by : By) (old new : BTreeMap (Option ℕ) Sums) (paid : List Paid) (p : Paid) → AddsPayment old new (key_of by p) p
    → ((key : Option ℕ) → get key_cmp old key ≡ total_at by key paid) → (key : Option ℕ) → get key_cmp new key ≡ total_at by key (paid ++ p ∷ [])
each_at by old new paid p adds before key =
    let more = λ (k : Option ℕ). Some (with_payment (sums_or_none (get key_cmp old k)) p) in
    let told : cond (is_at_key by key p) (more key) (get key_cmp old key) ≡ total_at by key (paid ++ p ∷ []) =
    ap (λ (o : Option Sums). cond (is_at_key by key p) (Some (with_payment (sums_or_none o) p)) o) (before key) ∙ sym (total_at_more by key paid p) in
    adds.updates.0 key ∙ ap (λ (b : Bool). cond b (more (key_of by p)) (get key_cmp old key)) (at_key (key_of by p) key) ∙ elim (cases_Bool (is_at_key by key p)) [
      | inl same ↦ ap (λ (k : Option ℕ). cond (is_at_key by key p) (more k) (get key_cmp old key)) (same_key (key_of by p) key same) ∙ told
      | inr other ↦ ap (λ (b : Bool). cond b (more (key_of by p)) (get key_cmp old key)) other ∙ sym (ap (λ (b : Bool). cond b (more key) (get key_cmp old key)) other) ∙ told
    ]

pub each_more : (by : By) (paid : List Paid) (i : ℕ) (d : Paid) (old new : BTreeMap (Option ℕ) Sums) → i < length paid
    → AddsPayment old new (key_of by (get_or paid i d)) (get_or paid i d) → ((key : Option ℕ) → get key_cmp old key ≡ total_at by key (take i paid))
    → (key : Option ℕ) → get key_cmp new key ≡ total_at by key (take (i + 1) paid)
each_more by paid i d old new lt adds before key =
    each_at by old new (take i paid) (get_or paid i d) adds before key
    ∙ ap (λ (xs : List Paid). total_at by key xs) (sym (take_more paid i d lt))

were_is : (f : Sums → ℕ) → f (sums_of []) ≡ 0 → (o : Option Sums) → unwrap_or (option_map f o) 0 ≡ f (sums_or_none o)
were_is f none None = sym none
were_is f none (Some s) = refl

-- a figure of all numbers after one payment more
figure_at : (f : Sums → ℕ) (g : Paid → ℕ) (old new : BTreeMap (Option ℕ) Sums) (key : Option ℕ) (paid : List Paid) (p : Paid)
    → ((s : Sums) → f (with_payment s p) ≡ f s + g p) → f (sums_of []) ≡ 0 → AddsPayment old new key p
    → sum_by f (values_of old.entries) ≡ sum_by g paid → sum_by f (values_of new.entries) ≡ sum_by g (paid ++ p ∷ [])
figure_at f g old new key paid p more none adds before =
    let after = with_payment (sums_or_none (get key_cmp old key)) p in
    let sum = sum_by-insert_entry f (options_total nat_cmp_total) old.entries key after adds.ordered in
    let were : unwrap_or (option_map f (get key_cmp old key)) 0 ≡ f (sums_or_none (get key_cmp old key)) = were_is f none (get key_cmp old key) in
    ap (λ (es : List (Option ℕ × Sums)). sum_by f (values_of es)) adds.entries
    ∙ omega (arith, sum, were, more (sums_or_none (get key_cmp old key)), before, figure_more g paid p)

pub all_more : (paid : List Paid) (i : ℕ) (d : Paid) (old new : BTreeMap (Option ℕ) Sums) (key : Option ℕ) → i < length paid
    → AddsPayment old new key (get_or paid i d) → AddUp old.entries (take i paid) → AddUp new.entries (take (i + 1) paid)
all_more paid i d old new key lt adds before =
    let p = get_or paid i d in
    subst (λ (xs : List Paid). AddUp new.entries xs) (sym (take_more paid i d lt)) (record {
      counts = figure_at (λ (s : Sums). s.count) (one_if false) old new key (take i paid) p (λ s. refl) refl adds before.counts;
      cents = figure_at (λ (s : Sums). s.cents) (cents_if false) old new key (take i paid) p (λ s. refl) refl adds before.cents;
      reversed_counts = figure_at (λ (s : Sums). s.reversed_count) (one_if true) old new key (take i paid) p (λ s. refl) refl adds before.reversed_counts;
      reversed_cents = figure_at (λ (s : Sums). s.reversed_cents) (cents_if true) old new key (take i paid) p (λ s. refl) refl adds before.reversed_cents;
    })
