-- What a refusal tells, of causes that come one after the other.
use Rattle.std.proofs.Common.{◌≡◌, ◌<◌, ◌≤◌, ℕ, ◌+◌, ◌^◌, List, [], length, get_or, map, drop, refl, sym, ap, subst, ◌∙◌, arith}
use Rattle.std.specs.Prelude.{Option, Some, None, Result, Ok, Err, IsErrAnd}
use Rattle.std.proofs.Math.ListN.{drop_of_length-le}
use Rattle.std.specs.Option.{option_or}
use Rattle.std.proofs.lemmas.List.{drop_more}
use Rattle.claim_reports.specs.declared.fault.ReportFault.{ReportFault}
use Rattle.claim_reports.specs.Causes.{Cause, RefusesFor, Tells, cause_of, bad_at, bad_rows, columns_cause, table_cause, uneven}
use Rattle.claim_reports.specs.Tables.{given_by}
use Rattle.claim_reports.proofs.Rowwise.{behind, ends}

-- it tells the first of two, or the second where the first is none
or_first : (s x y : Option Cause) → option_or s x ≡ x → option_or s (option_or x y) ≡ option_or x y
or_first None x y e = refl
or_first (Some f) x y e = rw (← e) refl

pub tells_first : (e : ReportFault) (x y : Option Cause) → Tells e x → Tells e (option_or x y)
tells_first e x y is = record { why = or_first (cause_of e) x y is.why }

pub tells_then : (e : ReportFault) (x y : Option Cause) → x ≡ None → Tells e y → Tells e (option_or x y)
tells_then e x y none is = record { why = rw none is.why }

-- want of memory tells nothing
pub tells_nothing : (e : ReportFault) (x : Option Cause) → cause_of e ≡ None → Tells e x
tells_nothing e x none = record { why = rw none refl }

-- a refusal where nothing is wrong is for want of memory
no_cause : (s : Option Cause) → option_or s None ≡ None → s ≡ None
no_cause None e = refl
no_cause (Some f) e = absurd (cc e)

pub tells_none : (e : ReportFault) (x : Option Cause) → Tells e None → Tells e x
tells_none e x is = tells_nothing e x (no_cause (cause_of e) is.why)

pub tells_this : (e : ReportFault) (f : Cause) (x : Option Cause) → cause_of e ≡ Some f → x ≡ Some f → Tells e x
tells_this e f x is wrong = record { why = rw (is, wrong) refl }

pub tells_same : (e : ReportFault) (x y : Option Cause) → y ≡ x → Tells e x → Tells e y
tells_same e x y same is = record { why = rw same is.why }

pub neither : (x y : Option Cause) → x ≡ None → y ≡ None → option_or x y ≡ None
neither x y none also = rw (none, also) refl

-- a refusal that is passed on
pub passed : {A : Type 0} (r : Result A ReportFault) (e : ReportFault) (x : Option Cause) → IsErrAnd r (λ f. f ≡ e) → Tells e x → RefusesFor r x
passed (Ok y) e x h is = absurd h
passed (Err f) e x h is = record { why = rw h is.why }

pub refuses_same : {A : Type 0} (r : Result A ReportFault) (x y : Option Cause) → x ≡ y → RefusesFor r x → RefusesFor r y
refuses_same r x y same is = subst (λ (o : Option Cause). RefusesFor r o) same is

-- ---- rows

-- a row is one of a table, by its place
pub record IsRowAt {B : Type 0} (table : ℕ) (records : List B) (i t n : ℕ) (held z : B) : Type 0 where
  pub lt : i < length records
  pub few : length records < 2 ^ 63
  pub of : t ≡ table
  pub at : i + 1 < 2 ^ 64 → n ≡ i + 1
  pub is : held ≡ get_or records i z

pub row_at : {B : Type 0} (table : ℕ) (records : List B) (i t n : ℕ) (held z : B) → i < length records → length records < 2 ^ 63 → t ≡ table → (i + 1 < 2 ^ 64 → n ≡ i + 1) → held ≡ get_or records i z
    → IsRowAt table records i t n held z
row_at table records i t n held z lt few of at is = record { lt = lt; few = few; of = of; at = at; is = is }

here : {B : Type 0} (table : ℕ) (bad : List (List ℕ) → Option (List ℕ)) (fields_of : B → List (List ℕ)) (records : List B) (i t n : ℕ) (held z : B) → IsRowAt table records i t n held z
    → bad_at t n (bad (fields_of held)) ≡ bad_at table (i + 1) (bad (fields_of (get_or records i z)))
here {B} table bad fields_of records i t n held z row =
    let lt = row.lt in
    let few = row.few in
    let number : n ≡ i + 1 = row.at (omega arith) in
    λ j. bad_at (row.of j) (number j) (bad (fields_of (row.is j)))

next : {B : Type 0} (table : ℕ) (bad : List (List ℕ) → Option (List ℕ)) (fields_of : B → List (List ℕ)) (records : List B) (i : ℕ) (z : B) → i < length records
    → bad_rows table bad (i + 1) (map fields_of (drop i records))
    ≡ option_or (bad_at table (i + 1) (bad (fields_of (get_or records i z)))) (bad_rows table bad (i + 1 + 1) (map fields_of (drop (i + 1) records)))
next {B} table bad fields_of records i z lt = ap (λ (xs : List B). bad_rows table bad (i + 1) (map fields_of xs)) (drop_more records i z lt)

-- a row more in which nothing is bad
pub good_more : {B : Type 0} (table : ℕ) (bad : List (List ℕ) → Option (List ℕ)) (fields_of : B → List (List ℕ)) (records : List B) (i t n : ℕ) (held z : B) (all : Option Cause) → IsRowAt table records i t n held z
    → bad_at t n (bad (fields_of held)) ≡ None
    → all ≡ bad_rows table bad (i + 1) (map fields_of (drop i records)) → all ≡ bad_rows table bad (i + 1 + 1) (map fields_of (drop (i + 1) records))
good_more {B} table bad fields_of records i t n held z all row none so_far =
    so_far ∙ next table bad fields_of records i z row.lt
    ∙ ap (λ (o : Option Cause). option_or o (bad_rows table bad (i + 1 + 1) (map fields_of (drop (i + 1) records))))
    (sym (here table bad fields_of records i t n held z row) ∙ none)

-- the first row in which something is
pub bad_here : {B C : Type 0} (table : ℕ) (bad : C → List (List ℕ) → Option (List ℕ)) (c d : C) (fields_of : B → List (List ℕ)) (records : List B) (rows : List (List (List ℕ))) (i t n : ℕ) (held z : B) (e : ReportFault)
    → c ≡ d → map fields_of records ≡ rows → IsRowAt table records i t n held z → Tells e (bad_at t n (bad c (fields_of held)))
    → bad_rows table (bad c) 1 (map fields_of records) ≡ bad_rows table (bad c) (i + 1) (map fields_of (drop i records)) → Tells e (bad_rows table (bad d) 1 rows)
bad_here {B} table bad c d fields_of records rows i t n held z e same are row is so_far =
    tells_same e _ (bad_rows table (bad d) 1 rows)
    ((λ j. bad_rows table (bad (sym same j)) 1 (sym are j)) ∙ so_far ∙ next table (bad c) fields_of records i z row.lt)
    (tells_first e _ _ (tells_same e _ _ (sym (here table (bad c) fields_of records i t n held z row)) is))

-- nothing is bad in any
pub all_good : {B C : Type 0} (table : ℕ) (bad : C → List (List ℕ) → Option (List ℕ)) (c d : C) (fields_of : B → List (List ℕ)) (records : List B) (rows : List (List (List ℕ))) (i : ℕ)
    → c ≡ d → map fields_of records ≡ rows → length records ≤ i
    → bad_rows table (bad c) 1 (map fields_of records) ≡ bad_rows table (bad c) (i + 1) (map fields_of (drop i records)) → bad_rows table (bad d) 1 rows ≡ None
all_good {B} table bad c d fields_of records rows i same are le so_far =
    (λ j. bad_rows table (bad (sym same j)) 1 (sym are j)) ∙ so_far
    ∙ ap (λ (xs : List B). bad_rows table (bad c) (i + 1) (map fields_of xs)) (drop_of_length-le records le)

-- what they give
pub given_is : {A B C : Type 0} (read : C → List (List ℕ) → Option (Option A)) (c d : C) (fields_of : B → List (List ℕ)) (records : List B) (rows : List (List (List ℕ))) (i : ℕ) (xs : List A)
    → c ≡ d → map fields_of records ≡ rows → length records ≤ i
    → given_by (read c) (map fields_of records) ≡ behind xs (given_by (read c) (map fields_of (drop i records))) → given_by (read d) rows ≡ Some xs
given_is read c d fields_of records rows i xs same are le so_far =
    (λ j. given_by (read (sym same j)) (sym are j)) ∙ ends (read c) fields_of records i xs (given_by (read c) (map fields_of records)) (drop_of_length-le records le) so_far

-- of a table whose text was read that its columns and its rows are wrong
pub table_is : {C : Type 0} (missing : ℕ → List (List (List ℕ)) → Option Cause) (bad : C → List (List ℕ) → Option (List ℕ)) (columns : List (List (List ℕ)) → C) (table n : ℕ) (records held : List (List (List ℕ)))
    → n ≡ table → records ≡ held → uneven table records ≡ None
    → columns_cause n (missing n held) (bad (columns held)) held ≡ table_cause table (missing table records) (bad (columns records)) records
unfolding table_cause
table_is missing bad columns table n records held number are even =
    (λ j. columns_cause (number j) (missing (number j) (sym are j)) (bad (columns (sym are j))) (sym are j))
    ∙ sym (ap (λ (o : Option Cause). option_or o (columns_cause table (missing table records) (bad (columns records)) records)) even)
