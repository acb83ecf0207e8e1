-- No fault stands in the text of fields, segments and groups: a search for the first fault walks over it.
use Rattle.std.proofs.Common.{◌≡◌, ℕ, ◌+◌, ◌-◌, ◌≤◌, Bool, true, false, not, eqb, ◌&&◌, ◌||◌, List, [], ◌∷◌, ◌++◌, length, None, refl, sym, ap, ◌∙◌, arith, length-append, append_assoc, ◌⊎◌, inl, inr}
use Rattle.std.proofs.lemmas.Bool.{eqb-true}
use Rattle.std.proofs.lemmas.List.{append-nil}
use Rattle.d0_segments.specs.Separators.{is_separator, is_plain, is_id, ends_here, ends_segment, ends_group}
use Rattle.d0_segments.specs.Parts.{FieldParts, SegmentParts, is_field, are_fields, is_segment, are_segments, is_group, are_groups}
use Rattle.d0_segments.specs.Texts.{field_text, fields_text, segment_text, segments_text, group_text, groups_text, body_text}
use Rattle.d0_segments.specs.Faults.{first_fault}

-- both of two tests hold
pub both : (a b : Bool) → (a && b) ≡ true → (a ≡ true) × (b ≡ true)
both true b e = (refl, e)
both false b e = absurd cc

pub not_true : (a : Bool) → not a ≡ true → a ≡ false
not_true true e = absurd cc
not_true false e = refl

pub neither : (a b : Bool) → (a || b) ≡ false → (a ≡ false) × (b ≡ false)
neither true b e = absurd cc
neither false b e = (refl, e)

-- a byte that is no separator is none of the three
pub record IsNone (b : ℕ) : Type 0 where
  pub field : eqb b 28 ≡ false
  pub group : eqb b 29 ≡ false
  pub segment : eqb b 30 ≡ false

pub is_none : (b : ℕ) → is_separator b ≡ false → IsNone b
is_none b e =
    let three = neither (eqb b 28 || eqb b 29) (eqb b 30) e in
    let two = neither (eqb b 28) (eqb b 29) three.0 in
    record { field = two.0; group = two.1; segment = three.1 }

-- after a byte that starts neither a group nor a segment, no matter which
pub inside : (x : ℕ) → eqb x 29 ≡ false → eqb x 30 ≡ false → (p : ℕ) (bs : List ℕ) → first_fault x p bs ≡ first_fault 0 p bs
inside x g s p [] = refl
inside x g s p (b ∷ bs) = simp (g, s)

-- over one plain byte
plain_byte : (b : ℕ) → is_separator b ≡ false → (p : ℕ) (bs : List ℕ) → first_fault 0 p (b ∷ bs) ≡ first_fault 0 (p + 1) bs
plain_byte b e p bs =
    let none = is_none b e in
    let here : first_fault 0 p (b ∷ bs) ≡ first_fault b (p + 1) bs = simp (none.field, none.group, none.segment) in
    here ∙ inside b none.group none.segment (p + 1) bs

pub walk_plain : (xs rest : List ℕ) (p : ℕ) → is_plain xs ≡ true → first_fault 0 p (xs ++ rest) ≡ first_fault 0 (p + length xs) rest
walk_plain [] rest p e = ap (λ q. first_fault 0 q rest) (omega arith)
walk_plain (x ∷ xs) rest p e =
    let parts = both (not (is_separator x)) (is_plain xs) e in
    plain_byte x (not_true (is_separator x) parts.0) p (xs ++ rest) ∙ walk_plain xs rest (p + 1) parts.1 ∙ ap (λ q. first_fault 0 q rest) (omega arith)

-- the two bytes of an id
pub record IsPair (id : List ℕ) : Type 0 where
  pub first : ℕ
  pub second : ℕ
  pub first_plain : is_separator first ≡ false
  pub second_plain : is_separator second ≡ false
  pub are : id ≡ first ∷ second ∷ []

pub pair_of : (id : List ℕ) → is_id id ≡ true → IsPair id
pair_of [] e = absurd cc
pair_of (a ∷ []) e = absurd cc
pair_of (a ∷ b ∷ []) e =
    let parts = both (not (is_separator a)) (not (is_separator b)) e in record {
      first = a;
      second = b;
      first_plain = not_true (is_separator a) parts.0;
      second_plain = not_true (is_separator b) parts.1;
      are = refl;
    }
pair_of (a ∷ b ∷ c ∷ id) e = absurd cc

-- over a field separator with two plain bytes after it
pub walk_id : (a b : ℕ) (rest : List ℕ) (p : ℕ) → is_separator a ≡ false → is_separator b ≡ false → first_fault 0 p (28 ∷ a ∷ b ∷ rest) ≡ first_fault 0 (p + 3) rest
walk_id a b rest p first second =
    let here : first_fault 0 p (28 ∷ a ∷ b ∷ rest) ≡ first_fault 28 (p + 1) (a ∷ b ∷ rest) = simp (first, second) in
    here ∙ inside 28 refl refl (p + 1) (a ∷ b ∷ rest) ∙ plain_byte a first (p + 1) (b ∷ rest) ∙ plain_byte b second (p + 1 + 1) rest ∙ ap (λ q. first_fault 0 q rest) (omega arith)

pub walk_field_of : (a b : ℕ) (value rest : List ℕ) (p : ℕ) → is_separator a ≡ false → is_separator b ≡ false → is_plain value ≡ true
    → first_fault 0 p ((28 ∷ a ∷ b ∷ value) ++ rest) ≡ first_fault 0 (p + length (28 ∷ a ∷ b ∷ value)) rest
walk_field_of a b value rest p first second plain =
    walk_id a b (value ++ rest) p first second ∙ walk_plain value rest (p + 3) plain ∙ ap (λ q. first_fault 0 q rest) (omega arith)

pub walk_field : (f : FieldParts) (rest : List ℕ) (p : ℕ) → is_field f ≡ true → first_fault 0 p (field_text f ++ rest) ≡ first_fault 0 (p + length (field_text f)) rest
walk_field f rest p e =
    let parts = both (is_id f.id) (is_plain f.value) e in
    let id = pair_of f.id parts.0 in
    rw id.are (walk_field_of id.first id.second f.value rest p id.first_plain id.second_plain parts.1)

pub walk_fields : (fs : List FieldParts) (rest : List ℕ) (p : ℕ) → are_fields fs ≡ true → first_fault 0 p (fields_text fs ++ rest) ≡ first_fault 0 (p + length (fields_text fs)) rest
walk_fields [] rest p e = ap (λ q. first_fault 0 q rest) (omega arith)
walk_fields (f ∷ fs) rest p e =
    let parts = both (is_field f) (are_fields fs) e in
    ap (first_fault 0 p) (append_assoc (field_text f) (fields_text fs) rest) ∙ walk_field f (fields_text fs ++ rest) p parts.0
    ∙ walk_fields fs rest (p + length (field_text f)) parts.1 ∙ ap (λ q. first_fault 0 q rest) (omega (arith, length-append (field_text f) (fields_text fs)))

-- fields end where what follows them does
fields_end : (fs : List FieldParts) (rest : List ℕ) → ends_here rest ≡ true → ends_here (fields_text fs ++ rest) ≡ true
fields_end [] rest e = e
fields_end (f ∷ fs) rest e = refl

pub ends_here_of : (rest : List ℕ) → ends_segment rest ≡ true → ends_here rest ≡ true
ends_here_of [] e = refl
ends_here_of (b ∷ rest) e = grind arith

pub first_of_two : (a b : Bool) → (a || b) ≡ true → (a ≡ true) ⊎ (b ≡ true)
first_of_two true b e = inl refl
first_of_two false b e = inr e

anywhere_at : (x b : ℕ) (rest : List ℕ) (p : ℕ) → (eqb b 30 ≡ true) ⊎ (eqb b 29 ≡ true) → first_fault x p (b ∷ rest) ≡ first_fault 0 p (b ∷ rest)
anywhere_at x b rest p (inl e) = rw (eqb-true b 30 e) refl
anywhere_at x b rest p (inr e) = rw (eqb-true b 29 e) refl

-- where a segment or a group begins, what stands before does not matter
pub anywhere : (x : ℕ) (rest : List ℕ) (p : ℕ) → ends_segment rest ≡ true → first_fault x p rest ≡ first_fault 0 p rest
anywhere x [] p e = refl
anywhere x (b ∷ rest) p e = anywhere_at x b rest p (first_of_two (eqb b 30) (eqb b 29) e)

pub segment_start : (x a b p : ℕ) (rest : List ℕ) → is_separator a ≡ false → is_separator b ≡ false → ends_here rest ≡ true
    → first_fault x p (30 ∷ 28 ∷ 65 ∷ 77 ∷ a ∷ b ∷ rest) ≡ first_fault 0 (p + 6) rest
segment_start x a b p rest first second end =
    let here : first_fault x p (30 ∷ 28 ∷ 65 ∷ 77 ∷ a ∷ b ∷ rest) ≡ first_fault 30 (p + 1) (28 ∷ 65 ∷ 77 ∷ a ∷ b ∷ rest) = simp (first, second, end) in
    let next : first_fault 30 (p + 1) (28 ∷ 65 ∷ 77 ∷ a ∷ b ∷ rest) ≡ first_fault 28 (p + 1 + 1) (65 ∷ 77 ∷ a ∷ b ∷ rest) = refl in
    here ∙ next ∙ inside 28 refl refl (p + 1 + 1) (65 ∷ 77 ∷ a ∷ b ∷ rest) ∙ plain_byte 65 refl (p + 1 + 1) (77 ∷ a ∷ b ∷ rest) ∙ plain_byte 77 refl (p + 1 + 1 + 1) (a ∷ b ∷ rest)
    ∙ plain_byte a first (p + 1 + 1 + 1 + 1) (b ∷ rest) ∙ plain_byte b second (p + 1 + 1 + 1 + 1 + 1) rest ∙ ap (λ q. first_fault 0 q rest) (omega arith)

walk_segment_of : (x a b p : ℕ) (fs : List FieldParts) (rest : List ℕ) → is_separator a ≡ false → is_separator b ≡ false → are_fields fs ≡ true → ends_segment rest ≡ true
    → first_fault x p ((30 ∷ 28 ∷ 65 ∷ 77 ∷ a ∷ b ∷ fields_text fs) ++ rest) ≡ first_fault 0 (p + length (30 ∷ 28 ∷ 65 ∷ 77 ∷ a ∷ b ∷ fields_text fs)) rest
walk_segment_of x a b p fs rest first second fields end =
    segment_start x a b p (fields_text fs ++ rest) first second (fields_end fs rest (ends_here_of rest end))
    ∙ walk_fields fs rest (p + 6) fields ∙ ap (λ q. first_fault 0 q rest) (omega arith)

pub walk_segment : (x : ℕ) (s : SegmentParts) (rest : List ℕ) (p : ℕ) → is_segment s ≡ true → ends_segment rest ≡ true
    → first_fault x p (segment_text s ++ rest) ≡ first_fault 0 (p + length (segment_text s)) rest
walk_segment x s rest p e end =
    let parts = both (is_id s.id) (are_fields s.fields) e in
    let id = pair_of s.id parts.0 in
    rw id.are (walk_segment_of x id.first id.second p s.fields rest id.first_plain id.second_plain parts.1 end)

segments_end : (ss : List SegmentParts) (rest : List ℕ) → ends_segment rest ≡ true → ends_segment (segments_text ss ++ rest) ≡ true
segments_end [] rest e = e
segments_end (s ∷ ss) rest e = refl

pub walk_segments : (ss : List SegmentParts) (rest : List ℕ) (p : ℕ) → are_segments ss ≡ true → ends_segment rest ≡ true
    → first_fault 0 p (segments_text ss ++ rest) ≡ first_fault 0 (p + length (segments_text ss)) rest
walk_segments [] rest p e end = ap (λ q. first_fault 0 q rest) (omega arith)
walk_segments (s ∷ ss) rest p e end =
    let parts = both (is_segment s) (are_segments ss) e in
    ap (first_fault 0 p) (append_assoc (segment_text s) (segments_text ss) rest) ∙ walk_segment 0 s (segments_text ss ++ rest) p parts.0 (segments_end ss rest end)
    ∙ walk_segments ss rest (p + length (segment_text s)) parts.1 end ∙ ap (λ q. first_fault 0 q rest) (omega (arith, length-append (segment_text s) (segments_text ss)))

pub ends_segment_of : (rest : List ℕ) → ends_group rest ≡ true → ends_segment rest ≡ true
ends_segment_of [] e = refl
ends_segment_of (b ∷ rest) e = grind arith

pub walk_group : (g : List SegmentParts) (rest : List ℕ) (p : ℕ) → is_group g ≡ true → ends_group rest ≡ true
    → first_fault 0 p (group_text g ++ rest) ≡ first_fault 0 (p + length (group_text g)) rest
walk_group [] rest p e end = absurd cc
walk_group (s ∷ ss) rest p e end =
    let here : first_fault 0 p (29 ∷ segments_text (s ∷ ss) ++ rest) ≡ first_fault 29 (p + 1) (segments_text (s ∷ ss) ++ rest) = refl in
    here ∙ anywhere 29 (segments_text (s ∷ ss) ++ rest) (p + 1) refl ∙ walk_segments (s ∷ ss) rest (p + 1) e (ends_segment_of rest end)
    ∙ ap (λ q. first_fault 0 q rest) (omega arith)

groups_end : (gs : List (List SegmentParts)) (rest : List ℕ) → ends_group rest ≡ true → ends_group (groups_text gs ++ rest) ≡ true
groups_end [] rest e = e
groups_end (g ∷ gs) rest e = refl

pub walk_groups : (gs : List (List SegmentParts)) (rest : List ℕ) (p : ℕ) → are_groups gs ≡ true → ends_group rest ≡ true
    → first_fault 0 p (groups_text gs ++ rest) ≡ first_fault 0 (p + length (groups_text gs)) rest
walk_groups [] rest p e end = ap (λ q. first_fault 0 q rest) (omega arith)
walk_groups (g ∷ gs) rest p e end =
    let parts = both (is_group g) (are_groups gs) e in
    ap (first_fault 0 p) (append_assoc (group_text g) (groups_text gs) rest) ∙ walk_group g (groups_text gs ++ rest) p parts.0 (groups_end gs rest end)
    ∙ walk_groups gs rest (p + length (group_text g)) parts.1 end ∙ ap (λ q. first_fault 0 q rest) (omega (arith, length-append (group_text g) (groups_text gs)))

-- no fault stands in what follows the header
pub walk_body : (shared : List SegmentParts) (groups : List (List SegmentParts)) (p : ℕ) → are_segments shared ≡ true → are_groups groups ≡ true
    → first_fault 29 p (body_text shared groups) ≡ None
walk_body shared groups p s g =
    let end : ends_group (groups_text groups) ≡ true = ap ends_group (sym (append-nil (groups_text groups))) ∙ groups_end groups [] refl in
    let start = segments_end shared (groups_text groups) (ends_segment_of (groups_text groups) end) in
    anywhere 29 (body_text shared groups) p start ∙ walk_segments shared (groups_text groups) p s (ends_segment_of (groups_text groups) end)
    ∙ ap (first_fault 0 (p + length (segments_text shared))) (sym (append-nil (groups_text groups)))
    ∙ walk_groups groups [] (p + length (segments_text shared)) g refl

-- the front of the bytes has no fault
pub carried : (end : ℕ) (bytes front rest : List ℕ) → bytes ≡ front ++ rest → length bytes ≤ end
    → ((p : ℕ) → first_fault 0 p (front ++ rest) ≡ first_fault 0 (p + length front) rest)
    → first_fault 0 (end - length bytes) bytes ≡ first_fault 0 (end - length rest) rest
carried end bytes front rest e le walk =
    let both : length bytes ≡ length front + length rest = ap length e ∙ length-append front rest in
    ap (first_fault 0 (end - length bytes)) e ∙ walk (end - length bytes) ∙ ap (λ q. first_fault 0 q rest) (omega arith)
