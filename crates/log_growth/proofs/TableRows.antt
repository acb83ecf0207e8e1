-- Rows of a table without a fault: which are there, which of them a function takes first, and that two of one key are one.
use Rattle.std.proofs.Common.{◌≡◌, ◌⊎◌, ℕ, ◌+◌, Bool, true, false, ◌&&◌, ◌==◌, cond, List, [], ◌∷◌, ◌++◌, map, length, Option, Some, None, inl, inr, refl, sym, ap, ◌∙◌, subst}
use Rattle.std.specs.Prelude.{⊤, bytes_eq}
use Rattle.std.specs.Option.{option_or}
use Rattle.std.specs.List.{list_any, filter_map, cons_option, position_from}
use Rattle.std.proofs.lemmas.Bool.{and_parts, both_ways, cond-true, cond-false, cond_both, or_cases, or_left, or_right, or_parts}
use Rattle.std.proofs.lemmas.Option.{none-some}
use Rattle.bin_routes.specs.declared.fault.RoutesFault.{RoutesFault}
use Rattle.bin_routes.specs.declared.fault.RoutesFault.TheVariants.{SameRow}
use Rattle.bin_routes.specs.Providers.{Providers}
use Rattle.bin_routes.specs.Row.{Row, leads, leading, filled_row, same_pcn, same_key}
use Rattle.bin_routes.specs.Fault.{text_fault, row_fault, is_among, is_taken, fault_behind}
use Rattle.bin_routes.specs.Table.{rejected_key, rejected_entry}
use Rattle.claim_model.proofs.Tests.{bytes_same, bytes_self, nat_same}
use Rattle.log_growth.specs.Compared.{same_ranges, same_number, same_row}
use Rattle.log_growth.proofs.NodesGrown.{neither}

-- a row is one of these
abbrev pub In : Row → List Row → Type 0
In r [] = ⊥
In r (x ∷ xs) = (x ≡ r) ⊎ In r xs

in_more : (r : Row) (xs ys : List Row) → In r xs → In r (xs ++ ys)
in_more r [] ys i = absurd i
in_more r (x ∷ xs) ys (inl e) = inl e
in_more r (x ∷ xs) ys (inr i) = inr (in_more r xs ys i)

in_last : (r : Row) (xs : List Row) → In r (xs ++ r ∷ [])
in_last r [] = inl refl
in_last r (x ∷ xs) = inr (in_last r xs)

in_filled : (r : Row) (xs : List Row) → In r xs → In (filled_row r) (map filled_row xs)
in_filled r [] i = absurd i
in_filled r (x ∷ xs) (inl same) = inl (ap filled_row same)
in_filled r (x ∷ xs) (inr i) = inr (in_filled r xs i)

-- tests of rows

pub none_any : (test : Row → Bool) (xs : List Row) (r : Row) → list_any test xs ≡ false → In r xs → test r ≡ false
none_any test [] r e i = absurd i
none_any test (x ∷ xs) r e (inl same) = ap test (sym same) ∙ (or_parts (test x) (list_any test xs) e).0
none_any test (x ∷ xs) r e (inr i) = none_any test xs r (or_parts (test x) (list_any test xs) e).1 i

pub any_true : (test : Row → Bool) (xs : List Row) (r : Row) → In r xs → test r ≡ true → list_any test xs ≡ true
any_true test [] r i e = absurd i
any_true test (x ∷ xs) r (inl same) e = or_left (test x) (list_any test xs) (ap test same ∙ e)
any_true test (x ∷ xs) r (inr i) e = or_right (test x) (list_any test xs) (any_true test xs r i e)

next_place : (t : Bool) (n : ℕ) (o : Option ℕ) → cond t (Some n) o ≡ None → (t ≡ false) × (o ≡ None)
next_place true n o e = absurd cc
next_place false n o e = (refl, e)

pub none_at : (test : Row → Bool) (n : ℕ) (xs : List Row) (r : Row) → position_from test n xs ≡ None → In r xs → test r ≡ false
none_at test n [] r e i = absurd i
none_at test n (x ∷ xs) r e (inl same) = ap test (sym same) ∙ (next_place (test x) n (position_from test (n + 1) xs) e).0
none_at test n (x ∷ xs) r e (inr i) = none_at test (n + 1) xs r (next_place (test x) n (position_from test (n + 1) xs) e).1 i

-- ---- the first that a function gives of rows

abbrev pub first : (Row → Option ℕ) → List Row → Option ℕ
first f [] = None
first f (x ∷ rows) = option_or (f x) (first f rows)

-- what is given, is given of a row
pub record Gives (f : Row → Option ℕ) (rows : List Row) (value : ℕ) : Type 0 where
  pub row : Row
  pub is_in : In row rows
  pub is : f row ≡ Some value

pub either_is : (a b : Option ℕ) (value : ℕ) → option_or a b ≡ Some value → (a ≡ Some value) ⊎ (b ≡ Some value)
either_is None b value e = inr e
either_is (Some x) b value e = inl e

pub first_row : (f : Row → Option ℕ) (rows : List Row) (value : ℕ) → first f rows ≡ Some value → Gives f rows value
first_row f [] value e = absurd (none-some value e)
first_row f (x ∷ rows) value e = elim (either_is (f x) (first f rows) value e) [
  | inl is ↦ record { row = x; is_in = inl refl; is = is }
  | inr later ↦ let g = first_row f rows value later in record { row = g.row; is_in = inr g.is_in; is = g.is }
]

-- nothing is given of none
pub first_none : (f : Row → Option ℕ) (rows : List Row) (r : Row) (value : ℕ) → In r rows → f r ≡ Some value → first f rows ≡ None → ⊥
first_none f [] r value i is none = absurd i
first_none f (x ∷ rows) r value (inl same) is none = none-some value (sym (neither (f x) (first f rows) none).0 ∙ (ap f same ∙ is))
first_none f (x ∷ rows) r value (inr i) is none = first_none f rows r value i is (neither (f x) (first f rows) none).1

-- a function gives one value of these
abbrev pub Alone : (Row → Option ℕ) → List Row → Type 0
Alone f rows = (x y : Row) (a b : ℕ) → In x rows → In y rows → f x ≡ Some a → f y ≡ Some b → a ≡ b

pub first_is : (f : Row → Option ℕ) (rows : List Row) (x : Row) (value : ℕ) → Alone f rows → In x rows → f x ≡ Some value → first f rows ≡ Some value
first_is f rows x value alone i is = held (first f rows) refl
  where
    held : (o : Option ℕ) → first f rows ≡ o → o ≡ Some value
    held None none = absurd (first_none f rows x value i is none)
    held (Some other) e = let y = first_row f rows other e in ap Some (alone y.row x other value y.is_in i y.is is)

-- ---- the same row

pub same_pcns : (a b : Option (List ℕ)) → same_pcn a b ≡ true → a ≡ b
same_pcns None None e = refl
same_pcns None (Some b) e = absurd cc
same_pcns (Some a) None e = absurd cc
same_pcns (Some a) (Some b) e = ap Some (bytes_same a b e)

same_ranges_same : (a b : Option Providers) → same_ranges a b ≡ true → a ≡ b
same_ranges_same None None e = refl
same_ranges_same None (Some b) e = absurd cc
same_ranges_same (Some a) None e = absurd cc
same_ranges_same (Some a) (Some b) e =
    let q = and_parts _ _ e in
    let f = and_parts _ _ q.1 in
    let qualifier : a.qualifier ≡ b.qualifier = bytes_same _ _ q.0 in
    let first : a.first ≡ b.first = bytes_same _ _ f.0 in
    let last : a.last ≡ b.last = bytes_same _ _ f.1 in
    λ i. Some (record { qualifier = qualifier i; first = first i; last = last i })

same_numbers : (a b : Option ℕ) → same_number a b ≡ true → a ≡ b
same_numbers None None e = refl
same_numbers None (Some b) e = absurd cc
same_numbers (Some a) None e = absurd cc
same_numbers (Some a) (Some b) e = ap Some (nat_same a b e)

same_rows : (a b : Row) → same_row a b ≡ true → b ≡ a
same_rows a b e =
    let k = and_parts (bytes_eq a.bin b.bin && same_pcn a.pcn b.pcn) _ e in
    let p = and_parts (bytes_eq a.bin b.bin) (same_pcn a.pcn b.pcn) k.0 in
    let n = and_parts (same_ranges a.providers b.providers) _ k.1 in
    let m = and_parts (a.payer == b.payer) (same_number a.rejected b.rejected) n.1 in
    let bin : a.bin ≡ b.bin = bytes_same _ _ p.0 in
    let pcn = same_pcns a.pcn b.pcn p.1 in
    let providers = same_ranges_same a.providers b.providers n.0 in
    let payer : a.payer ≡ b.payer = nat_same _ _ m.0 in
    let rejected = same_numbers a.rejected b.rejected m.1 in
    sym (λ i. record { bin = bin i; pcn = pcn i; providers = providers i; payer = payer i; rejected = rejected i })

pub among : (r : Row) (xs : List Row) → list_any (same_row r) xs ≡ true → In r xs
among r [] e = absurd cc
among r (x ∷ xs) e = elim (or_cases (same_row r x) (list_any (same_row r) xs) e) [
  | inl is ↦ inl (same_rows r x is)
  | inr later ↦ inr (among r xs later)
]

-- ---- rows that lead to payers

from_leading_by : (r x : Row) (b : Bool) (xs : List Row) → leads x ≡ b → (In r (leading xs) → In r xs × (leads r ≡ true)) → In r (cond b (x ∷ leading xs) (leading xs)) → In r (x ∷ xs) × (leads r ≡ true)
from_leading_by r x true xs is later (inl same) = (inl same, ap leads (sym same) ∙ is)
from_leading_by r x true xs is later (inr i) = (inr (later i).0, (later i).1)
from_leading_by r x false xs is later i = (inr (later i).0, (later i).1)

pub from_leading : (r : Row) (xs : List Row) → In r (leading xs) → In r xs × (leads r ≡ true)
from_leading r [] i = absurd i
from_leading r (x ∷ xs) i = from_leading_by r x (leads x) xs refl (from_leading r xs) i

pub to_leading : (r : Row) (xs : List Row) → In r xs → leads r ≡ true → In r (leading xs)
to_leading r [] i lead = absurd i
to_leading r (x ∷ xs) (inl same) lead = subst (λ (zs : List Row). In r zs) (sym (cond-true (leads x) (x ∷ leading xs) (leading xs) (ap leads same ∙ lead))) (inl same)
to_leading r (x ∷ xs) (inr i) lead = cond_both (leads x) (x ∷ leading xs) (leading xs) (λ zs. In r zs) (λ _. inr (to_leading r xs i lead)) (λ _. to_leading r xs i lead)

-- ---- rows of a table without a fault have keys of their own

not_taken : (o : Option RoutesFault) (same : Bool) (place : ℕ) → option_or o (cond same (Some (SameRow place)) None) ≡ None → same ≡ false
not_taken None false place e = refl
not_taken None true place e = absurd cc
not_taken (Some f) same place e = absurd cc

-- no row has the key of one before it
abbrev pub Untaken : List Row → List Row → Type 0
Untaken earlier [] = ⊤
Untaken earlier (x ∷ rows) = (is_taken earlier x ≡ false) × Untaken (earlier ++ x ∷ []) rows

pub untaken : (payers : ℕ) (earlier rows : List Row) → fault_behind payers earlier rows ≡ None → Untaken earlier rows
untaken payers earlier [] none = tt
untaken payers earlier (x ∷ rows) none =
    let here = neither (row_fault payers (length earlier) x (is_taken earlier x)) (fault_behind payers (earlier ++ x ∷ []) rows) none in
    (not_taken (text_fault payers (length earlier) x) (is_taken earlier x) (length earlier) here.0, untaken payers (earlier ++ x ∷ []) rows here.1)

-- the second is a row of a key that the first has
abbrev pub Takes : Row → Row → Type 0
Takes e r = (earlier : List Row) → In e earlier → is_taken earlier r ≡ true

not_after : (earlier rows : List Row) (e r : Row) → Untaken earlier rows → In r rows → In e earlier → Takes e r → ⊥
not_after earlier [] e r none i j takes = absurd i
not_after earlier (x ∷ rows) e r none (inl same) j takes = both_ways (is_taken earlier x) none.0 (ap (is_taken earlier) same ∙ takes earlier j)
not_after earlier (x ∷ rows) e r none (inr i) j takes = not_after (earlier ++ x ∷ []) rows e r none.1 i (in_more e earlier (x ∷ []) j) takes

pub one_row : (earlier rows : List Row) (e r : Row) → Untaken earlier rows → In e rows → In r rows → Takes e r → Takes r e → e ≡ r
one_row earlier [] e r none i j to from = absurd i
one_row earlier (x ∷ rows) e r none (inl p) (inl q) to from = sym p ∙ q
one_row earlier (x ∷ rows) e r none (inl p) (inr j) to from = absurd (not_after (earlier ++ x ∷ []) rows e r none.1 j (subst (λ (z : Row). In z (earlier ++ x ∷ [])) p (in_last x earlier)) to)
one_row earlier (x ∷ rows) e r none (inr i) (inl q) to from = absurd (not_after (earlier ++ x ∷ []) rows r e none.1 i (subst (λ (z : Row). In z (earlier ++ x ∷ [])) q (in_last x earlier)) from)
one_row earlier (x ∷ rows) e r none (inr i) (inr j) to from = one_row (earlier ++ x ∷ []) rows e r none.1 i j to from

-- two rows that lead to payers are of one key
pub leading_takes : (e r : Row) → leads e ≡ true → leads r ≡ true → same_key (filled_row r) (filled_row e) ≡ true → Takes e r
leading_takes e r lead_e lead same earlier i =
    cond-true (leads r) _ _ lead ∙ any_true (same_key (filled_row r)) (map filled_row (leading earlier)) (filled_row e) (in_filled e (leading earlier) (to_leading e earlier i lead_e)) same

-- the entries of rows have those of each
any_entry : {A : Type 0} (test : A → Bool) (entry : Row → Option A) (rows : List Row) (r : Row) (a : A) → In r rows → entry (filled_row r) ≡ Some a → test a ≡ true → list_any test (filter_map entry (map filled_row rows)) ≡ true
any_entry test entry [] r a i is e = absurd i
any_entry {A} test entry (x ∷ rows) r a (inl same) is e =
    let own = ap (λ (z : Row). entry (filled_row z)) same ∙ is in
    ap (λ (o : Option A). list_any test (cons_option o (filter_map entry (map filled_row rows)))) own ∙ or_left (test a) _ e
any_entry {A} test entry (x ∷ rows) r a (inr i) is e = more (entry (filled_row x)) (any_entry test entry rows r a i is e)
  where
    more : (o : Option A) → list_any test (filter_map entry (map filled_row rows)) ≡ true → list_any test (cons_option o (filter_map entry (map filled_row rows))) ≡ true
    more None later = later
    more (Some b) later = or_right (test b) _ later

-- two rows that let requests stay rejected are of one key
pub rejecting_takes : (e r : Row) (key : List ℕ) (last : ℕ) → leads r ≡ false → rejected_key (filled_row r) ≡ Some key → rejected_entry (filled_row e) ≡ Some (key, last) → Takes e r
rejecting_takes e r key last lead has is earlier i =
    cond-false (leads r) _ _ lead ∙ (ap (is_among (filter_map rejected_entry (map filled_row earlier))) has
    ∙ any_entry (λ (f : List ℕ × ℕ). bytes_eq key f.0) rejected_entry earlier e (key, last) i is (bytes_self key))
