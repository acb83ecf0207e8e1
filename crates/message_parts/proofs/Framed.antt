-- The parts of a framed transmission.
use Rattle.std.proofs.Common.{◌≡◌, ℕ, suc, ◌+◌, Bool, true, false, not, ◌&&◌, ◌||◌, ◌==◌, List, [], ◌∷◌, ◌++◌, ◌⊎◌, inl, inr, take, drop, cond, Option, Some, None, refl, ap, subst, sym, ◌∙◌, arith}
use Rattle.std.specs.Prelude.{if◌then◌else◌}
use Rattle.std.specs.List.{AllByRecursion}
use Rattle.d0_header.specs.declared.fault.HeaderFault.{HeaderFault}
use Rattle.d0_segments.specs.declared.fault.FramingFault.{FramingFault}
use Rattle.d0_segments.specs.declared.fault.FramingFault.TheVariants.{NoSegmentStart, NoSegmentId, BadFieldId, EmptyGroup}
use Rattle.d0_segments.specs.Separators.{is_separator, ends_here, ends_group, begins_with, plain_length}
use Rattle.d0_segments.specs.Faults.{starts_nothing, is_empty_group, has_segment_id, has_field_id, is_later_field, fault_at, or_else, first_fault, count_groups}
use Rattle.d0_segments.specs.Framing.{after_header, count_fault, framing_fault, request_kind, response_kind}
use Rattle.message_parts.specs.declared.layout.Form.{Form}
use Rattle.message_parts.specs.declared.layout.Form.TheVariants.{Request, Answer}
use Rattle.message_parts.specs.declared.layout.Within.{Within}
use Rattle.message_parts.specs.declared.names.FieldName.{FieldName}
use Rattle.message_parts.specs.declared.part.PartKind.{PartKind}
use Rattle.message_parts.specs.declared.part.PartKind.TheVariants as kind
use Rattle.message_parts.specs.Known.{known_field}
use Rattle.message_parts.specs.Parts.{PartSeen}
use Rattle.message_parts.specs.Steps.{filled_part, head_parts, request_rows, answer_rows, header_rows, width_of, begins_segment, begins_field, begins_group, field_id, part_size, part_kind, within_behind, at_first, AreBody, AreTransmission}
use Rattle.message_parts.specs.Standing.{stands, Stands}

cases : (b : Bool) → (b ≡ true) ⊎ (b ≡ false)
cases true = inl refl
cases false = inr refl

right : (a b : Bool) → (a && b) ≡ true → b ≡ true
right true b e = e
right false b e = absurd cc

left : (a b : Bool) → (a && b) ≡ true → a ≡ true
left true b e = refl
left false b e = absurd cc

is_not : (b : Bool) → not b ≡ true → b ≡ false
is_not true e = absurd cc
is_not false e = refl

-- ---- where no fault stands

neither : (o later : Option FramingFault) → or_else o later ≡ None → (o ≡ None) × (later ≡ None)
neither None later e = (refl, e)
neither (Some f) later e = absurd cc

no_test : (place : ℕ) (a b c d : Bool) → (if a then Some (NoSegmentStart place) else (if b then Some (EmptyGroup place) else (if c then Some (NoSegmentId place) else (if d then Some (BadFieldId place) else None)))) ≡ None
    → (a ≡ false) × (b ≡ false) × (c ≡ false) × (d ≡ false)
no_test place true b c d e = absurd cc
no_test place false true c d e = absurd cc
no_test place false false true d e = absurd cc
no_test place false false false true e = absurd cc
no_test place false false false false e = (refl, refl, refl, refl)

starts_segment : (s g h : Bool) → h ≡ true → g ≡ false → (not (s || g) && h) ≡ false → s ≡ true
starts_segment true g h is more none = refl
starts_segment false true h is more none = absurd cc
starts_segment false false true is more none = absurd cc
starts_segment false false false is more none = absurd cc

-- a group separator has a segment after it
behind_group : (place b : ℕ) (bs : List ℕ) → (b == 29) ≡ true → ends_group bs ≡ false → first_fault b place bs ≡ None → begins_with 30 bs ≡ true
behind_group place b [] is more none = absurd cc
behind_group place b (c ∷ cs) is more none =
    let here = no_test place (starts_nothing b c) (is_empty_group c cs) (c == 30 && not (has_segment_id cs)) (is_later_field b c && not (has_field_id cs)) (neither (fault_at b place c cs) (first_fault c (place + 1) cs) none).0 in
    starts_segment (c == 30) (c == 29) (b == 29) is more here.0

-- a place where a part may begin: after the header or a group separator, or before a separator or the end, and after no segment separator
record Begins (before : ℕ) (bytes : List ℕ) : Type 0 where
  pub behind : (before == 30) ≡ false
  pub here : ((before == 29) ≡ true) ⊎ (ends_here bytes ≡ true)

-- which of the parts begins there
one_begins : (s g f bs bg hs hf eg bw : Bool) → (not (s || g) && bg) ≡ false → (g && eg) ≡ false → (s && not hs) ≡ false → ((f && not bs && not bg) && not hf) ≡ false
    → bs ≡ false → (bg ≡ true) ⊎ ((f || g || s) ≡ true) → (g ≡ true → eg ≡ false → bw ≡ true) → ((s && hs) || ((g && bw) || (f && hf))) ≡ true
one_begins true g f bs bg true hf eg bw a b c d behind here group = refl
one_begins true g f bs bg false hf eg bw a b c d behind here group = absurd cc
one_begins false true f bs bg hs hf true bw a b c d behind here group = absurd cc
one_begins false true f bs bg hs hf false bw a b c d behind here group = ap (λ w. w || (f && hf)) (group refl refl)
one_begins false false f bs true hs hf eg bw a b c d behind here group = absurd cc
one_begins false false f true false hs hf eg bw a b c d behind here group = absurd cc
one_begins false false true false false hs true eg bw a b c d behind here group = refl
one_begins false false true false false hs false eg bw a b c d behind here group = absurd cc
one_begins false false false false false hs hf eg bw a b c d behind (inl e) group = absurd cc
one_begins false false false false false hs hf eg bw a b c d behind (inr e) group = absurd cc

kind_stands : (s g f : Bool) (name : Option FieldName) → (s || (g || f)) ≡ true → stands (if s then kind.Segment else (if f then kind.Field name else (if g then kind.Group else kind.Stray))) ≡ true
kind_stands true g f name e = refl
kind_stands false g true name e = refl
kind_stands false true false name e = refl
kind_stands false false false name e = absurd cc

-- the tests of the fault table at the front
tests_of : (before place b : ℕ) (bs : List ℕ) → first_fault before place (b ∷ bs) ≡ None
    → (starts_nothing before b ≡ false) × (is_empty_group b bs ≡ false) × ((b == 30 && not (has_segment_id bs)) ≡ false) × ((is_later_field before b && not (has_field_id bs)) ≡ false)
tests_of before place b bs none =
    no_test place (starts_nothing before b) (is_empty_group b bs) (b == 30 && not (has_segment_id bs)) (is_later_field before b && not (has_field_id bs)) (neither (fault_at before place b bs) (first_fault b (place + 1) bs) none).0

goes_on : (before place b : ℕ) (bs : List ℕ) → first_fault before place (b ∷ bs) ≡ None → first_fault b (place + 1) bs ≡ None
goes_on before place b bs none = (neither (fault_at before place b bs) (first_fault b (place + 1) bs) none).1

-- the part there is one that may stand there
part_stands : (form : Form) (within : Within) (before place b : ℕ) (bs : List ℕ) → Begins before (b ∷ bs) → first_fault before place (b ∷ bs) ≡ None → stands (part_kind form within (b ∷ bs)) ≡ true
unfolding part_kind
part_stands form within before place b bs begins none =
    let t = tests_of before place b bs none in
    kind_stands (begins_segment (b ∷ bs)) (begins_group (b ∷ bs)) (begins_field (b ∷ bs)) (known_field form within (field_id (b ∷ bs)))
    (one_begins (b == 30) (b == 29) (b == 28) (before == 30) (before == 29) (has_segment_id bs) (has_field_id bs) (ends_group bs) (begins_with 30 bs)
    t.0 t.1 t.2 t.3 begins.behind begins.here (λ is more. behind_group (place + 1) b bs is more (goes_on before place b bs none)))

-- ---- the next place

record NextFree (rest : List ℕ) : Type 0 where
  pub before : ℕ
  pub place : ℕ
  pub none : first_fault before place rest ≡ None
  pub begins : Begins before rest

none_of : (f g s : Bool) → (f || g || s) ≡ false → s ≡ false
none_of true g s e = absurd cc
none_of false true s e = absurd cc
none_of false false s e = e

no_segment_separator : (b : ℕ) → is_separator b ≡ false → (b == 30) ≡ false
no_segment_separator b e = none_of (b == 28) (b == 29) (b == 30) e

-- after the identification of a segment
behind_segment : (before place b : ℕ) (bs : List ℕ) → has_segment_id bs ≡ true → first_fault before place (b ∷ bs) ≡ None → NextFree (drop 5 bs)
behind_segment before place b [] is none = absurd cc
behind_segment before place b (f ∷ []) is none = absurd cc
behind_segment before place b (f ∷ a ∷ []) is none = absurd cc
behind_segment before place b (f ∷ a ∷ m ∷ []) is none = absurd cc
behind_segment before place b (f ∷ a ∷ m ∷ x ∷ []) is none = absurd cc
behind_segment before place b (f ∷ a ∷ m ∷ x ∷ y ∷ rest) is none =
    let front : Bool = f == 28 && a == 65 && m == 77 && not (is_separator x) in
    let second : not (is_separator y) ≡ true = right front (not (is_separator y)) (left (front && not (is_separator y)) (ends_here rest) is) in
    let one = goes_on before place b (f ∷ a ∷ m ∷ x ∷ y ∷ rest) none in
    let two = goes_on b (place + 1) f (a ∷ m ∷ x ∷ y ∷ rest) one in
    let three = goes_on f (place + 1 + 1) a (m ∷ x ∷ y ∷ rest) two in
    let four = goes_on a (place + 1 + 1 + 1) m (x ∷ y ∷ rest) three in
    let five = goes_on m (place + 1 + 1 + 1 + 1) x (y ∷ rest) four in
    record {
      before = y;
      place = place + 1 + 1 + 1 + 1 + 1 + 1;
      none = goes_on x (place + 1 + 1 + 1 + 1 + 1) y rest five;
      begins = record {
        behind = no_segment_separator y (is_not (is_separator y) second);
        here = inr (right (front && not (is_separator y)) (ends_here rest) is);
      };
    }

one_more : (n : ℕ) → 1 + n ≡ suc n
one_more n = omega arith

-- after the bytes up to the next separator
behind_plain : (place b : ℕ) (bs : List ℕ) → (b == 30) ≡ false → first_fault b place bs ≡ None → NextFree (drop (plain_length bs) bs)
behind_plain place b [] behind none = record { before = b; place = place; none = none; begins = record { behind = behind; here = inr refl } }
behind_plain place b (c ∷ cs) behind none = elim (cases (is_separator c)) [
  | inl is ↦
      let size : plain_length (c ∷ cs) ≡ 0 = ap (λ v. cond (not v) (1 + plain_length cs) 0) is in
      record {
        before = b;
        place = place;
        none = ap (λ n. first_fault b place (drop n (c ∷ cs))) size ∙ none;
        begins = record { behind = behind; here = inr (ap (λ n. ends_here (drop n (c ∷ cs))) size ∙ is) };
      }
  | inr other ↦
      let size : plain_length (c ∷ cs) ≡ suc (plain_length cs) = ap (λ v. cond (not v) (1 + plain_length cs) 0) other ∙ one_more (plain_length cs) in
      subst (λ (n : ℕ). NextFree (drop n (c ∷ cs))) (sym size) (behind_plain (place + 1) c cs (no_segment_separator c other) (goes_on b place c cs none))
]

no_separator_if : (s h : Bool) → (s && not h) ≡ false → (s && h) ≡ false → s ≡ false
no_separator_if true true a b = absurd cc
no_separator_if true false a b = absurd cc
no_separator_if false h a b = refl

behind_part : (before place b : ℕ) (bs : List ℕ) → first_fault before place (b ∷ bs) ≡ None → NextFree (drop (part_size (b ∷ bs)) (b ∷ bs))
unfolding part_size
behind_part before place b bs none = elim (cases (begins_segment (b ∷ bs))) [
  | inl is ↦
      let size : part_size (b ∷ bs) ≡ 6 = ap (λ v. if v then 6 else 1 + plain_length bs) is in
      subst (λ (n : ℕ). NextFree (drop n (b ∷ bs))) (sym size) (behind_segment before place b bs (right (b == 30) (has_segment_id bs) is) none)
  | inr other ↦
      let size : part_size (b ∷ bs) ≡ suc (plain_length bs) = ap (λ v. if v then 6 else 1 + plain_length bs) other ∙ one_more (plain_length bs) in
      let t = tests_of before place b bs none in
      subst (λ (n : ℕ). NextFree (drop n (b ∷ bs))) (sym size)
      (behind_plain (place + 1) b bs (no_separator_if (b == 30) (has_segment_id bs) t.2 other) (goes_on before place b bs none))
]

-- ---- all parts

body_stands : (form : Form) (within : Within) (before at place : ℕ) (bytes : List ℕ) (parts : List PartSeen) → Begins before bytes → first_fault before at bytes ≡ None
    → AreBody form within place bytes parts → AllByRecursion Stands parts
body_stands form within before at place bytes [] begins none are = tt
body_stands form within before at place [] (p ∷ ps) begins none are = absurd (omega (arith, are.0))
body_stands form within before at place (b ∷ bs) (p ∷ ps) begins none are =
    let size : ℕ = part_size (b ∷ bs) in
    let next : NextFree (drop size (b ∷ bs)) = behind_part before at b bs none in (
      ap (λ (q : PartSeen). stands q.kind) are.1 ∙ part_stands form within before at b bs begins none,
      body_stands form (within_behind within (b ∷ bs)) next.before next.place (place + size) (drop size (b ∷ bs)) ps next.begins next.none are.2,
    )

pub both : (xs ys : List PartSeen) → AllByRecursion Stands xs → AllByRecursion Stands ys → AllByRecursion Stands (xs ++ ys)
both [] ys a b = b
both (x ∷ xs) ys a b = (a.0, both xs ys a.1 b)

pub filled : (k : PartKind) (place : ℕ) (bytes : List ℕ) → stands k ≡ true → AllByRecursion Stands (filled_part k place bytes)
filled k place [] e = tt
filled k place (b ∷ bs) e = (e, tt)

pub head_stands : (rows : List (PartKind × ℕ)) (place : ℕ) (bytes : List ℕ) → AllByRecursion (λ (row : PartKind × ℕ). stands row.0 ≡ true) rows → AllByRecursion Stands (head_parts rows place bytes)
head_stands [] place bytes rows = tt
head_stands (row ∷ more) place bytes rows =
    both (filled_part row.0 place (take row.1 bytes)) (head_parts more (place + row.1) (drop row.1 bytes)) (filled row.0 place (take row.1 bytes) rows.0) (head_stands more (place + row.1) (drop row.1 bytes) rows.1)

header_stands : (form : Form) → AllByRecursion (λ (row : PartKind × ℕ). stands row.0 ≡ true) (header_rows form)
unfolding request_rows answer_rows
header_stands Request = (refl, (refl, (refl, (refl, (refl, (refl, (refl, (refl, (refl, tt)))))))))
header_stands Answer = (refl, (refl, (refl, (refl, (refl, (refl, (refl, tt)))))))

transmission_stands : (form : Form) (at place : ℕ) (bytes : List ℕ) (parts : List PartSeen) → first_fault 29 at (drop (width_of (header_rows form)) bytes) ≡ None → AreTransmission form place bytes parts
    → AllByRecursion Stands parts
transmission_stands form at place bytes parts none t =
    let rows : List (PartKind × ℕ) = header_rows form in
    subst (λ (ps : List PartSeen). AllByRecursion Stands ps) (sym t.are)
    (both (head_parts rows place bytes) t.body (head_stands rows place bytes (header_stands form))
    (body_stands form at_first 29 at (place + width_of rows) (drop (width_of rows) bytes) t.body (record { behind = refl; here = inl refl }) none t.behind))

-- no fault of a transmission, so none of what stands after its header
no_body_fault : (o : Option HeaderFault) (later count : Option FramingFault) → after_header o (or_else later count) ≡ None → later ≡ None
no_body_fault (Some fault) later count e = absurd cc
no_body_fault None (Some fault) count e = absurd cc
no_body_fault None None count e = refl

pub request : (place : ℕ) (bytes : List ℕ) (parts : List PartSeen) → framing_fault request_kind bytes ≡ None → AreTransmission Request place bytes parts → AllByRecursion Stands parts
unfolding framing_fault request_rows
request place bytes parts none t =
    let body : List ℕ = drop 56 bytes in
    let said : ℕ = request_kind.said (request_kind.header_of bytes) in
    transmission_stands Request 56 place bytes parts (no_body_fault (request_kind.fault bytes) (first_fault 29 56 body) (count_fault said (count_groups body)) none) t

pub answer : (place : ℕ) (bytes : List ℕ) (parts : List PartSeen) → framing_fault response_kind bytes ≡ None → AreTransmission Answer place bytes parts → AllByRecursion Stands parts
unfolding framing_fault answer_rows
answer place bytes parts none t =
    let body : List ℕ = drop 31 bytes in
    let said : ℕ = response_kind.said (response_kind.header_of bytes) in
    transmission_stands Answer 31 place bytes parts (no_body_fault (response_kind.fault bytes) (first_fault 29 31 body) (count_fault said (count_groups body)) none) t
