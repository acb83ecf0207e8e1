-- The records of a text are those that a reader reaches one after the other.
use Rattle.std.proofs.Common.{◌≡◌, ◌≢◌, ◌<◌, ◌≤◌, ℕ, zero, suc, ◌+◌, ◌-◌, ◌==◌, ◌&&◌, Bool, true, false, List, [], ◌∷◌, ◌++◌, length, refl, sym, ap, ◌∙◌, arith}
use Rattle.std.specs.Prelude.{Option, Some, None, if◌then◌else◌, IfSome, unwrap_or}
use Rattle.std.specs.List.{list_all}
use Rattle.csv.specs.Machine.{Read, next_record, step, is_end, ends_at_end, fields_after, field_after}
use Rattle.std.proofs.Common.{length-append, eq-eqb}
use Rattle.std.proofs.lemmas.Bool.{and_from, and_left, and_right, ne_eqb}
use Rattle.std.proofs.lemmas.List.Folds.{list_all-append}
use Rattle.csv.specs.Reading.{Reached, records, records_from}
use Rattle.csv.proofs.ReadFacts.{reached-more}
use Rattle.claim_reports.specs.Causes.{NotCsv, uneven}
use Rattle.csv.specs.declared.parser.Config.{Config}
use Rattle.csv.specs.declared.parser.State.{State}
use Rattle.csv.specs.declared.parser.State.TheVariants as state

pub some_is : {A : Type 0} (x y : A) → ◌≡◌ {A = Option A} (Some x) (Some y) → x ≡ y
some_is x y e = ap (λ o. unwrap_or o x) e

shorter_if : (b : Bool) (p r : Read) (o : Option Read) (n : ℕ) → (if b then Some p else o) ≡ Some r → length p.2 ≤ n → (o ≡ Some r → length r.2 ≤ n) → length r.2 ≤ n
shorter_if true p r o n e here there = let same : length p.2 ≡ length r.2 = ap (λ (q : Read). length q.2) (some_is p r e) in omega arith
shorter_if false p r o n e here there = there e

-- a record takes a byte at least, where there is one
shorter : (cfg : Config) (s : State) (fields : List (List ℕ)) (field xs : List ℕ) (r : Read) → next_record cfg s fields field xs ≡ Some r → length r.2 ≤ length xs - 1
unfolding next_record
shorter cfg s fields field [] r e = shorter_if (ends_at_end s) (fields ++ (field ∷ []), state.StartRecord, []) r None (length {A = ℕ} [] - 1) e (omega arith) (λ h. absurd (cc h))
shorter cfg s fields field (c ∷ rest) r e =
    shorter_if (is_end (step cfg s c).1) (fields_after (step cfg s c).1 fields field, (step cfg s c).0, rest) r
    (next_record cfg (step cfg s c).0 (fields_after (step cfg s c).1 fields field) (field_after (step cfg s c).1 c field) rest) (length (c ∷ rest) - 1) e (omega arith)
    (λ h. let less = shorter cfg (step cfg s c).0 (fields_after (step cfg s c).1 fields field) (field_after (step cfg s c).1 c field) rest r h in omega arith)

-- at the end of a text there is one record at most, and none after it
last_if : (b : Bool) (p r : Read) → (if b then Some p else None) ≡ Some r → p ≡ r
last_if true p r e = some_is p r e
last_if false p r e = absurd (cc e)

last : (cfg : Config) (s : State) (r : Read) → next_record cfg s [] [] [] ≡ Some r → ([] ∷ [], state.StartRecord, []) ≡ r
unfolding next_record
last cfg s r e = last_if (ends_at_end s) ([] ∷ [], state.StartRecord, []) r e

none_after : (cfg : Config) (rows : List (List (List ℕ))) (s2 : State) (ys : List ℕ) → Reached cfg state.StartRecord [] rows s2 ys → rows ≡ []
unfolding Reached next_record
none_after cfg [] s2 ys h = refl
none_after cfg (r ∷ rs) s2 ys h = absurd (cc (h.1))

bound : (cfg : Config) (s : State) (xs : List ℕ) (rows : List (List (List ℕ))) (s2 : State) (ys : List ℕ) → Reached cfg s xs rows s2 ys → length rows ≤ length xs + 1
unfolding Reached
bound cfg s xs [] s2 ys h = omega arith
bound cfg s [] (r ∷ rs) s2 ys h =
    let e = last cfg s h.0 h.1 in
    let at : Reached cfg state.StartRecord [] rs s2 ys = rw (← e) at h.3 in
    let none : length rs ≡ 0 = ap length (none_after cfg rs s2 ys at) in
    omega arith
bound cfg s (c ∷ xs) (r ∷ rs) s2 ys h =
    let less = shorter cfg s [] [] (c ∷ xs) h.0 h.1 in
    let more = bound cfg h.0.1 h.0.2 rs s2 ys h.3 in
    omega arith

all_from : (cfg : Config) (n : ℕ) (s : State) (xs : List ℕ) (rows : List (List (List ℕ))) (s2 : State) (ys : List ℕ) → Reached cfg s xs rows s2 ys → next_record cfg s2 [] [] ys ≡ None → length rows ≤ n
    → records_from cfg n s xs ≡ rows
unfolding Reached records_from
all_from cfg zero s xs [] s2 ys h none le = refl
all_from cfg (suc n) s xs [] s2 ys h none le = rw (h.0, h.1, none) refl
all_from cfg zero s xs (r ∷ rs) s2 ys h none le = absurd (omega arith)
all_from cfg (suc n) s xs (r ∷ rs) s2 ys h none le = rw (h.1, h.2, all_from cfg n h.0.1 h.0.2 rs s2 ys h.3 none (omega arith)) refl

some_from : (cfg : Config) (n : ℕ) (s : State) (xs : List ℕ) (rows : List (List (List ℕ))) (s2 : State) (ys : List ℕ) (p : Read) → Reached cfg s xs rows s2 ys → next_record cfg s2 [] [] ys ≡ Some p → length rows < n
    → (more : List (List (List ℕ))) × (records_from cfg n s xs ≡ rows ++ p.0 ∷ more)
unfolding Reached records_from
some_from cfg zero s xs rows s2 ys p h next lt = absurd (omega arith)
some_from cfg (suc n) s xs [] s2 ys p h next lt = (records_from cfg n p.1 p.2, rw (h.0, h.1, next) refl)
some_from cfg (suc n) s xs (r ∷ rs) s2 ys p h next lt =
    let rest = some_from cfg n h.0.1 h.0.2 rs s2 ys p h.3 next (omega arith) in
    (rest.0, rw (h.1, h.2, rest.1) refl)

some_lt : (cfg : Config) (s s2 : State) (xs ys : List ℕ) (rows : List (List (List ℕ))) (p : Read) → Reached cfg s xs rows s2 ys → next_record cfg s2 [] [] ys ≡ Some p → length rows < length xs + 1
some_lt cfg s s2 xs ys rows p h next =
    let more = bound cfg s xs (rows ++ (p.0 ∷ [])) p.1 p.2 (reached-more cfg s s2 xs ys rows p h next) in
    let longer = length-append rows (p.0 ∷ []) in
    omega arith

-- these are all of a text
pub all_of : (cfg : Config) (xs : List ℕ) (rows : List (List (List ℕ))) (s2 : State) (ys : List ℕ) → Reached cfg state.StartRecord xs rows s2 ys → next_record cfg s2 [] [] ys ≡ None
    → records cfg xs ≡ rows
all_of cfg xs rows s2 ys h none = all_from cfg (length xs + 1) state.StartRecord xs rows s2 ys h none (bound cfg state.StartRecord xs rows s2 ys h)

-- these are the first of a text
pub first_of : (cfg : Config) (xs : List ℕ) (rows : List (List (List ℕ))) (s2 : State) (ys : List ℕ) (p : Read) → Reached cfg state.StartRecord xs rows s2 ys → next_record cfg s2 [] [] ys ≡ Some p
    → (more : List (List (List ℕ))) × (records cfg xs ≡ rows ++ p.0 ∷ more)
first_of cfg xs rows s2 ys p h next = some_from cfg (length xs + 1) state.StartRecord xs rows s2 ys p h next (some_lt cfg state.StartRecord s2 xs ys rows p h next)

-- ---- records of one length

-- a reader expects the length of the first record, which each of these has
unfoldable pub Expects : Option ℕ → List (List (List ℕ)) → Type 0
Expects o [] = o ≡ None
Expects o (names ∷ rows) = (o ≡ Some (length names)) × (list_all (λ (row : List (List ℕ)). length row == length names) rows ≡ true)

all_more : (n : ℕ) (rows : List (List (List ℕ))) (row : List (List ℕ)) → list_all (λ (r : List (List ℕ)). length r == n) rows ≡ true → length row ≡ n
    → list_all (λ (r : List (List ℕ)). length r == n) (rows ++ row ∷ []) ≡ true
all_more n rows row all e = list_all-append (λ (r : List (List ℕ)). length r == n) rows (row ∷ []) ∙ and_from _ _ all (and_from _ _ (eq-eqb (length row) n e) refl)

not_all : (n : ℕ) (rows : List (List (List ℕ))) (row : List (List ℕ)) (more : List (List (List ℕ))) → (length row == n) ≡ false
    → list_all (λ (r : List (List ℕ)). length r == n) (rows ++ row ∷ more) ≡ false
not_all n rows row more e = list_all-append (λ (r : List (List ℕ)). length r == n) rows (row ∷ more) ∙ and_right _ _ (and_left (length row == n) _ e)

pub expects_more : (old new : Option ℕ) (records : List (List (List ℕ))) (row : List (List ℕ)) → Expects old records → IfSome old (λ e. new ≡ Some e) → new ≡ Some (length row) → Expects new (records ++ row ∷ [])
unfolding Expects
expects_more old new [] row so_far stays is = (is, refl)
expects_more old new (names ∷ rows) row so_far stays is =
    let kept : new ≡ Some (length names) = rw so_far.0 at stays in
    (kept, all_more (length names) rows row so_far.1 (some_is (length row) (length names) (sym is ∙ kept)))

pub even_is : (table : ℕ) (o : Option ℕ) (records : List (List (List ℕ))) → Expects o records → uneven table records ≡ None
unfolding Expects
even_is table o [] so_far = refl
even_is table o (names ∷ rows) so_far = rw so_far.1 refl

pub uneven_is : (table expected : ℕ) (old : Option ℕ) (records : List (List (List ℕ))) (row : List (List ℕ)) (more : List (List (List ℕ))) → Expects old records → old ≡ Some expected → expected ≢ length row
    → uneven table (records ++ row ∷ more) ≡ Some (NotCsv table)
unfolding Expects
uneven_is table expected old [] row more so_far is apart = absurd (cc (so_far, is))
uneven_is table expected old (names ∷ rows) row more so_far is apart =
    let same : expected ≡ length names = some_is expected (length names) (sym is ∙ so_far.0) in
    rw (not_all (length names) rows row more (ne_eqb (length row) (length names) (λ e. apart (same ∙ sym e)))) refl
