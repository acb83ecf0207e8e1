-- What stands where no fault does.
use Rattle.std.proofs.Common.{◌≡◌, ℕ, zero, suc, ◌+◌, ◌<◌, ◌≤◌, Bool, true, false, not, cond, eqb, ◌&&◌, ◌||◌, List, [], ◌∷◌, ◌++◌, length, get_or, drop, Option, Some, None, is_none, refl, sym, ap, subst, ◌∙◌, arith}
use Rattle.std.proofs.lemmas.Bool.{eqb-true}
use Rattle.d0_segments.specs.declared.fault.FramingFault.{FramingFault}
use Rattle.d0_segments.specs.declared.fault.FramingFault.TheVariants.{NoSegmentStart, NoSegmentId, BadFieldId, EmptyGroup}
use Rattle.d0_segments.specs.Separators.{is_separator, is_plain, ends_here, ends_segment, ends_group, begins_with}
use Rattle.d0_segments.specs.Faults.{starts_nothing, is_empty_group, has_segment_id, has_field_id, is_later_field, fault_at, or_else, first_fault}
use Rattle.d0_segments.specs.Inside.{is_inside}
use Rattle.d0_segments.proofs.Walking.{both, not_true, anywhere, ends_here_of, walk_field_of, segment_start}

-- no fault is told at a byte, nor after it
pub neither : (o later : Option FramingFault) → or_else o later ≡ None → (o ≡ None) × (later ≡ None)
neither None later e = (refl, e)
neither (Some f) later e = absurd cc

abbrev tests : (place : ℕ) (a b c d : Bool) → Option FramingFault
tests place a b c d = cond a (Some (NoSegmentStart place)) (cond b (Some (EmptyGroup place)) (cond c (Some (NoSegmentId place)) (cond d (Some (BadFieldId place)) None)))

tests_none : (p q : ℕ) (a b c d : Bool) → tests p a b c d ≡ None → tests q a b c d ≡ None
tests_none p q true b c d e = absurd cc
tests_none p q false true c d e = absurd cc
tests_none p q false false true d e = absurd cc
tests_none p q false false false true e = absurd cc
tests_none p q false false false false e = refl

-- places are only told
at_another : (x p q b : ℕ) (bs : List ℕ) → fault_at x p b bs ≡ None → fault_at x q b bs ≡ None
at_another x p q b bs e = tests_none p q (starts_nothing x b) (is_empty_group b bs) (eqb b 30 && not (has_segment_id bs)) (is_later_field x b && not (has_field_id bs)) e

pub from_another : (x p q : ℕ) (bs : List ℕ) → first_fault x p bs ≡ None → first_fault x q bs ≡ None
from_another x p q [] e = refl
from_another x p q (b ∷ bs) e =
    let h = neither (fault_at x p b bs) (first_fault b (p + 1) bs) e in
    ap (λ o. or_else o (first_fault b (q + 1) bs)) (at_another x p q b bs h.0) ∙ from_another b (p + 1) (q + 1) bs h.1

no_fault_if : (b : Bool) (f : FramingFault) → cond (not b) (Some f) None ≡ None → b ≡ true
no_fault_if true f e = refl
no_fault_if false f e = absurd cc

-- what each separator has after it
pub named_field : (p : ℕ) (bs : List ℕ) → first_fault 0 p (28 ∷ bs) ≡ None → has_field_id bs ≡ true
named_field p bs e = no_fault_if (has_field_id bs) (BadFieldId p) (neither (fault_at 0 p 28 bs) (first_fault 28 (p + 1) bs) e).0

named_if : (b : Bool) (p : ℕ) → tests p false false (not b) false ≡ None → b ≡ true
named_if true p e = refl
named_if false p e = absurd cc

pub named_segment : (p : ℕ) (bs : List ℕ) → first_fault 0 p (30 ∷ bs) ≡ None → has_segment_id bs ≡ true
named_segment p bs e = named_if (has_segment_id bs) p (neither (fault_at 0 p 30 bs) (first_fault 30 (p + 1) bs) e).0

filled_if : (b : Bool) (p : ℕ) → tests p false b false false ≡ None → b ≡ false
filled_if true p e = absurd cc
filled_if false p e = refl

filled_group : (x p : ℕ) (bs : List ℕ) → first_fault x p (29 ∷ bs) ≡ None → (ends_group bs ≡ false) × (first_fault 29 (p + 1) bs ≡ None)
filled_group x p bs e = let h = neither (fault_at x p 29 bs) (first_fault 29 (p + 1) bs) e in (filled_if (ends_group bs) p h.0, h.1)

started_if : (b : Bool) (p : ℕ) (c d e : Bool) → tests p (not b && true) c d e ≡ None → b ≡ true
started_if true p c d e h = refl
started_if false p c d e h = absurd cc

-- after the header and after a group separator a segment or a group begins
pub started : (p : ℕ) (bs : List ℕ) → first_fault 29 p bs ≡ None → ends_segment bs ≡ true
started p [] e = refl
started p (b ∷ bs) e =
    started_if (eqb b 30 || eqb b 29) p (is_empty_group b bs) (eqb b 30 && not (has_segment_id bs)) (is_later_field 29 b && not (has_field_id bs)) (neither (fault_at 29 p b bs) (first_fault b (p + 1) bs) e).0

-- the two facts of a place inside
none_of : (o : Option FramingFault) → is_none o ≡ true → o ≡ None
none_of None e = refl
none_of (Some f) e = absurd cc

pub inside_facts : (bs : List ℕ) → is_inside bs ≡ true → (ends_here bs ≡ true) × (first_fault 0 0 bs ≡ None)
unfolding is_inside
inside_facts bs e = let h = both (ends_here bs) (is_none (first_fault 0 0 bs)) e in (h.0, none_of (first_fault 0 0 bs) h.1)

pub inside_of : (p : ℕ) (bs : List ℕ) → ends_here bs ≡ true → first_fault 0 p bs ≡ None → is_inside bs ≡ true
unfolding is_inside
inside_of p bs e none = ap (λ t. t && is_none (first_fault 0 0 bs)) e ∙ ap is_none (from_another 0 p 0 bs none)

pub inside_body : (p : ℕ) (bs : List ℕ) → ends_segment bs ≡ true → first_fault 29 p bs ≡ None → is_inside bs ≡ true
inside_body p bs e none = inside_of p bs (ends_here_of bs e) (sym (anywhere 29 bs p e) ∙ none)

-- the two bytes of a field's name
pub record IsFieldStart (bs : List ℕ) : Type 0 where
  pub long : 3 ≤ length bs
  pub first : is_separator (get_or bs 1 0) ≡ false
  pub second : is_separator (get_or bs 2 0) ≡ false
  pub are : bs ≡ 28 ∷ get_or bs 1 0 ∷ get_or bs 2 0 ∷ drop 3 bs

field_start_of : (b : ℕ) (bs : List ℕ) → b ≡ 28 → has_field_id bs ≡ true → IsFieldStart (b ∷ bs)
field_start_of b [] is e = absurd cc
field_start_of b (x ∷ []) is e = absurd cc
field_start_of b (x ∷ y ∷ bs) is e =
    let parts = both (not (is_separator x)) (not (is_separator y)) e in
    record { long = omega arith; first = not_true (is_separator x) parts.0; second = not_true (is_separator y) parts.1; are = ap (λ c. c ∷ x ∷ y ∷ bs) is }

field_start_at : (b : ℕ) (bs : List ℕ) → b ≡ 28 → first_fault 0 0 (b ∷ bs) ≡ None → IsFieldStart (b ∷ bs)
field_start_at b bs is none = field_start_of b bs is (named_field 0 bs (subst (λ c. first_fault 0 0 (c ∷ bs) ≡ None) is none))

pub field_start : (bs : List ℕ) → is_inside bs ≡ true → begins_with 28 bs ≡ true → IsFieldStart bs
field_start [] inside begins = absurd cc
field_start (b ∷ bs) inside begins = field_start_at b bs (eqb-true b 28 begins) (inside_facts (b ∷ bs) inside).1

-- after a field
pub behind_field : (bs value rest : List ℕ) → is_inside bs ≡ true → begins_with 28 bs ≡ true → is_plain value ≡ true → ends_here rest ≡ true → drop 3 bs ≡ value ++ rest
    → is_inside rest ≡ true
behind_field bs value rest inside begins plain ends parts =
    let s = field_start bs inside begins in
    let x = get_or bs 1 0 in
    let y = get_or bs 2 0 in
    let whole : bs ≡ (28 ∷ x ∷ y ∷ value) ++ rest = s.are ∙ ap (λ t. 28 ∷ x ∷ y ∷ t) parts in
    let none : first_fault 0 0 ((28 ∷ x ∷ y ∷ value) ++ rest) ≡ None = ap (first_fault 0 0) (sym whole) ∙ (inside_facts bs inside).1 in
    inside_of (0 + length (28 ∷ x ∷ y ∷ value)) rest ends (sym (walk_field_of x y value rest 0 s.first s.second plain) ∙ none)

-- the identification of a segment
pub record IsSegmentStart (bs : List ℕ) : Type 0 where
  pub long : 6 ≤ length bs
  pub first : is_separator (get_or bs 4 0) ≡ false
  pub second : is_separator (get_or bs 5 0) ≡ false
  pub ends : ends_here (drop 6 bs) ≡ true
  pub are : bs ≡ 30 ∷ 28 ∷ 65 ∷ 77 ∷ get_or bs 4 0 ∷ get_or bs 5 0 ∷ drop 6 bs

segment_start_of : (b : ℕ) (bs : List ℕ) → b ≡ 30 → has_segment_id bs ≡ true → IsSegmentStart (b ∷ bs)
segment_start_of b [] is e = absurd cc
segment_start_of b (f ∷ []) is e = absurd cc
segment_start_of b (f ∷ a ∷ []) is e = absurd cc
segment_start_of b (f ∷ a ∷ m ∷ []) is e = absurd cc
segment_start_of b (f ∷ a ∷ m ∷ x ∷ []) is e = absurd cc
segment_start_of b (f ∷ a ∷ m ∷ x ∷ y ∷ bs) is e =
    let five = both (eqb f 28 && eqb a 65 && eqb m 77 && not (is_separator x) && not (is_separator y)) (ends_here bs) e in
    let four = both (eqb f 28 && eqb a 65 && eqb m 77 && not (is_separator x)) (not (is_separator y)) five.0 in
    let three = both (eqb f 28 && eqb a 65 && eqb m 77) (not (is_separator x)) four.0 in
    let two = both (eqb f 28 && eqb a 65) (eqb m 77) three.0 in
    let one = both (eqb f 28) (eqb a 65) two.0 in
    let ef : f ≡ 28 = eqb-true f 28 one.0 in
    let ea : a ≡ 65 = eqb-true a 65 one.1 in
    let em : m ≡ 77 = eqb-true m 77 two.1 in
    record {
      long = omega arith;
      first = not_true (is_separator x) three.1;
      second = not_true (is_separator y) four.1;
      ends = five.1;
      are = λ i. is i ∷ ef i ∷ ea i ∷ em i ∷ x ∷ y ∷ bs;
    }

segment_start_at : (b : ℕ) (bs : List ℕ) → b ≡ 30 → first_fault 0 0 (b ∷ bs) ≡ None → IsSegmentStart (b ∷ bs)
segment_start_at b bs is none = segment_start_of b bs is (named_segment 0 bs (subst (λ c. first_fault 0 0 (c ∷ bs) ≡ None) is none))

pub segment_here : (bs : List ℕ) → is_inside bs ≡ true → begins_with 30 bs ≡ true → IsSegmentStart bs
segment_here [] inside begins = absurd cc
segment_here (b ∷ bs) inside begins = segment_start_at b bs (eqb-true b 30 begins) (inside_facts (b ∷ bs) inside).1

-- after the identification
pub behind_name : (bs : List ℕ) → is_inside bs ≡ true → begins_with 30 bs ≡ true → is_inside (drop 6 bs) ≡ true
behind_name bs inside begins =
    let s = segment_here bs inside begins in
    let x = get_or bs 4 0 in
    let y = get_or bs 5 0 in
    let none : first_fault 0 0 (30 ∷ 28 ∷ 65 ∷ 77 ∷ x ∷ y ∷ drop 6 bs) ≡ None = ap (first_fault 0 0) (sym s.are) ∙ (inside_facts bs inside).1 in
    inside_of (0 + 6) (drop 6 bs) s.ends (sym (segment_start 0 x y 0 (drop 6 bs) s.first s.second s.ends) ∙ none)

-- after a group separator
behind_group_at : (x p b : ℕ) (bs : List ℕ) → b ≡ 29 → first_fault x p (b ∷ bs) ≡ None → is_inside bs ≡ true
behind_group_at x p b bs is none =
    let f = (filled_group x p bs (subst (λ c. first_fault x p (c ∷ bs) ≡ None) is none)).1 in
    inside_body (p + 1) bs (started (p + 1) bs f) f

behind_group_from : (x p : ℕ) (bs : List ℕ) (k : ℕ) → k < length bs → eqb (get_or bs k 0) 29 ≡ true → first_fault x p bs ≡ None → is_inside (drop (k + 1) bs) ≡ true
behind_group_from x p [] k lt e none = absurd (omega arith)
behind_group_from x p (b ∷ bs) zero lt e none = behind_group_at x p b bs (eqb-true b 29 e) none
behind_group_from x p (b ∷ bs) (suc k) lt e none =
    let more : suc k + 1 ≡ suc (k + 1) = omega arith in
    let h = (neither (fault_at x p b bs) (first_fault b (p + 1) bs) none).1 in
    ap (λ n. is_inside (drop n (b ∷ bs))) more ∙ behind_group_from b (p + 1) bs k (omega arith) e h

pub behind_group : (bs : List ℕ) (k : ℕ) → is_inside bs ≡ true → k < length bs → eqb (get_or bs k 0) 29 ≡ true → is_inside (drop (k + 1) bs) ≡ true
behind_group bs k inside lt e = behind_group_from 0 0 bs k lt e (inside_facts bs inside).1

-- at a place inside, what begins no field begins a segment or a group, or is the end
no_field_at : (f g s : Bool) → (f || g || s) ≡ true → (f ≡ true → ⊥) → (s || g) ≡ true
no_field_at true g s e never = absurd (never refl)
no_field_at false true true e never = refl
no_field_at false true false e never = refl
no_field_at false false true e never = refl
no_field_at false false false e never = e

pub no_field : (bs : List ℕ) → is_inside bs ≡ true → (begins_with 28 bs ≡ true → ⊥) → ends_segment bs ≡ true
no_field [] inside never = refl
no_field (b ∷ bs) inside never = no_field_at (eqb b 28) (eqb b 29) (eqb b 30) (inside_facts (b ∷ bs) inside).0 never
