-- A text that is cut at its separators gives the parts again.
use Rattle.std.proofs.Common.{◌≡◌, ℕ, ◌+◌, Bool, true, false, not, cond, eqb, ◌&&◌, List, [], ◌∷◌, ◌++◌, map, drop, length, refl, ap, ◌∙◌, arith}
use Rattle.std.proofs.lemmas.List.{append-nil}
use Rattle.std.proofs.lemmas.Bool.{eq-eqb}
use Rattle.d0_segments.specs.Separators.{is_separator, is_plain, is_id}
use Rattle.d0_segments.specs.Parts.{FieldParts, SegmentParts, is_field, are_fields, is_segment, are_segments, is_group, are_groups}
use Rattle.d0_segments.specs.Texts.{field_text, fields_text, segment_text, segments_text, groups_text, body_text}
use Rattle.d0_segments.specs.Faults.{count_groups}
use Rattle.d0_segments.specs.Pieces.{onto, pieces, field_of, segment_from, segment_of, segments_of, first_segments, shared_of, groups_of}
use Rattle.d0_segments.proofs.Walking.{both, not_true, is_none, pair_of}

-- whether a byte stands nowhere in a text
pub lacks : ℕ → List ℕ → Bool
lacks x [] = true
lacks x (b ∷ bs) = not (eqb b x) && lacks x bs

pub lacks-cons : (x b : ℕ) (bs : List ℕ) → eqb b x ≡ false → lacks x bs ≡ true → lacks x (b ∷ bs) ≡ true
unfolding lacks
lacks-cons x b bs e h = ap (λ t. not t && lacks x bs) e ∙ h

pub lacks-head : (x b : ℕ) (bs : List ℕ) → lacks x (b ∷ bs) ≡ true → (eqb b x ≡ false) × (lacks x bs ≡ true)
unfolding lacks
lacks-head x b bs e = let parts = both (not (eqb b x)) (lacks x bs) e in (not_true (eqb b x) parts.0, parts.1)

pub lacks-nil : (x : ℕ) → lacks x [] ≡ true
unfolding lacks
lacks-nil x = refl

lacks-append : (x : ℕ) (xs bs : List ℕ) → lacks x xs ≡ true → lacks x bs ≡ true → lacks x (xs ++ bs) ≡ true
lacks-append x [] bs e h = h
lacks-append x (a ∷ xs) bs e h = let parts = lacks-head x a xs e in lacks-cons x a (xs ++ bs) parts.0 (lacks-append x xs bs parts.1 h)

-- a plain text lacks each separator
pub record LacksAll (bs : List ℕ) : Type 0 where
  pub field : lacks 28 bs ≡ true
  pub group : lacks 29 bs ≡ true
  pub segment : lacks 30 bs ≡ true

plain_lacks : (bs : List ℕ) → is_plain bs ≡ true → LacksAll bs
plain_lacks [] e = record { field = lacks-nil 28; group = lacks-nil 29; segment = lacks-nil 30 }
plain_lacks (b ∷ bs) e =
    let parts = both (not (is_separator b)) (is_plain bs) e in
    let none = is_none b (not_true (is_separator b) parts.0) in
    let rest = plain_lacks bs parts.1 in
    record { field = lacks-cons 28 b bs none.field rest.field; group = lacks-cons 29 b bs none.group rest.group; segment = lacks-cons 30 b bs none.segment rest.segment }

id_plain : (id : List ℕ) → is_id id ≡ true → is_plain id ≡ true
id_plain [] e = refl
id_plain (a ∷ []) e = absurd cc
id_plain (a ∷ b ∷ []) e = let parts = both (not (is_separator a)) (not (is_separator b)) e in rw (parts.0, parts.1) refl
id_plain (a ∷ b ∷ c ∷ id) e = absurd cc

-- what a field has after its separator
abbrev pub inner : FieldParts → List ℕ
inner f = f.id ++ f.value

pub inner_lacks : (f : FieldParts) → is_field f ≡ true → LacksAll (inner f)
inner_lacks f e =
    let parts = both (is_id f.id) (is_plain f.value) e in
    let id = plain_lacks f.id (id_plain f.id parts.0) in
    let value = plain_lacks f.value parts.1 in
    record { field = lacks-append 28 f.id f.value id.field value.field; group = lacks-append 29 f.id f.value id.group value.group; segment = lacks-append 30 f.id f.value id.segment value.segment }

fields_lack_segment : (fs : List FieldParts) → are_fields fs ≡ true → lacks 30 (fields_text fs) ≡ true
fields_lack_segment [] e = lacks-nil 30
fields_lack_segment (f ∷ fs) e =
    let parts = both (is_field f) (are_fields fs) e in
    lacks-append 30 (field_text f) (fields_text fs) (lacks-cons 30 28 (inner f) refl (inner_lacks f parts.0).segment) (fields_lack_segment fs parts.1)

fields_lack_group : (fs : List FieldParts) → are_fields fs ≡ true → lacks 29 (fields_text fs) ≡ true
fields_lack_group [] e = lacks-nil 29
fields_lack_group (f ∷ fs) e =
    let parts = both (is_field f) (are_fields fs) e in
    lacks-append 29 (field_text f) (fields_text fs) (lacks-cons 29 28 (inner f) refl (inner_lacks f parts.0).group) (fields_lack_group fs parts.1)

-- what a segment has after its separator
abbrev inside : SegmentParts → List ℕ
inside s = 28 ∷ (65 ∷ 77 ∷ s.id) ++ fields_text s.fields

pub name_lacks : (s : SegmentParts) → is_segment s ≡ true → LacksAll (65 ∷ 77 ∷ s.id)
name_lacks s e =
    let parts = both (is_id s.id) (are_fields s.fields) e in
    let id = plain_lacks s.id (id_plain s.id parts.0) in
    record {
      field = lacks-cons 28 65 (77 ∷ s.id) refl (lacks-cons 28 77 s.id refl id.field);
      group = lacks-cons 29 65 (77 ∷ s.id) refl (lacks-cons 29 77 s.id refl id.group);
      segment = lacks-cons 30 65 (77 ∷ s.id) refl (lacks-cons 30 77 s.id refl id.segment);
    }

inside_lacks_segment : (s : SegmentParts) → is_segment s ≡ true → lacks 30 (inside s) ≡ true
inside_lacks_segment s e =
    let parts = both (is_id s.id) (are_fields s.fields) e in
    lacks-append 30 (28 ∷ 65 ∷ 77 ∷ s.id) (fields_text s.fields) (lacks-cons 30 28 (65 ∷ 77 ∷ s.id) refl (name_lacks s e).segment) (fields_lack_segment s.fields parts.1)

inside_lacks_group : (s : SegmentParts) → is_segment s ≡ true → lacks 29 (inside s) ≡ true
inside_lacks_group s e =
    let parts = both (is_id s.id) (are_fields s.fields) e in
    lacks-append 29 (28 ∷ 65 ∷ 77 ∷ s.id) (fields_text s.fields) (lacks-cons 29 28 (65 ∷ 77 ∷ s.id) refl (name_lacks s e).group) (fields_lack_group s.fields parts.1)

segments_lack_group : (ss : List SegmentParts) → are_segments ss ≡ true → lacks 29 (segments_text ss) ≡ true
segments_lack_group [] e = lacks-nil 29
segments_lack_group (s ∷ ss) e =
    let parts = both (is_segment s) (are_segments ss) e in
    lacks-append 29 (segment_text s) (segments_text ss) (lacks-cons 29 30 (inside s) refl (inside_lacks_group s parts.0)) (segments_lack_group ss parts.1)

-- cutting
cut_none : (x : ℕ) (bs : List ℕ) → lacks x bs ≡ true → pieces x bs ≡ bs ∷ []
cut_none x [] e = refl
cut_none x (b ∷ bs) e =
    let parts = lacks-head x b bs e in
    ap (λ t. cond t ([] ∷ pieces x bs) (onto b (pieces x bs))) parts.0 ∙ ap (onto b) (cut_none x bs parts.1)

cut_first : (x : ℕ) (xs bs : List ℕ) → lacks x xs ≡ true → pieces x (xs ++ x ∷ bs) ≡ xs ∷ pieces x bs
cut_first x [] bs e = ap (λ t. cond t ([] ∷ pieces x bs) (onto x (pieces x bs))) (eq-eqb x x refl)
cut_first x (a ∷ xs) bs e =
    let parts = lacks-head x a xs e in
    ap (λ t. cond t ([] ∷ pieces x (xs ++ x ∷ bs)) (onto a (pieces x (xs ++ x ∷ bs)))) parts.0 ∙ ap (onto a) (cut_first x xs bs parts.1)

cut_fields : (fs : List FieldParts) (front : List ℕ) → lacks 28 front ≡ true → are_fields fs ≡ true → pieces 28 (front ++ fields_text fs) ≡ front ∷ map inner fs
cut_fields [] front lack e = ap (pieces 28) (append-nil front) ∙ cut_none 28 front lack
cut_fields (f ∷ fs) front lack e =
    let parts = both (is_field f) (are_fields fs) e in
    cut_first 28 front (inner f ++ fields_text fs) lack ∙ ap (λ ps. front ∷ ps) (cut_fields fs (inner f) (inner_lacks f parts.0).field parts.1)

cut_segments : (ss : List SegmentParts) (front : List ℕ) → lacks 30 front ≡ true → are_segments ss ≡ true → pieces 30 (front ++ segments_text ss) ≡ front ∷ map inside ss
cut_segments [] front lack e = ap (pieces 30) (append-nil front) ∙ cut_none 30 front lack
cut_segments (s ∷ ss) front lack e =
    let parts = both (is_segment s) (are_segments ss) e in
    cut_first 30 front (inside s ++ segments_text ss) lack ∙ ap (λ ps. front ∷ ps) (cut_segments ss (inside s) (inside_lacks_segment s parts.0) parts.1)

group_segments : (g : List SegmentParts) → is_group g ≡ true → are_segments g ≡ true
group_segments [] e = absurd cc
group_segments (s ∷ ss) e = e

cut_groups : (gs : List (List SegmentParts)) (front : List ℕ) → lacks 29 front ≡ true → are_groups gs ≡ true → pieces 29 (front ++ groups_text gs) ≡ front ∷ map segments_text gs
cut_groups [] front lack e = ap (pieces 29) (append-nil front) ∙ cut_none 29 front lack
cut_groups (g ∷ gs) front lack e =
    let parts = both (is_group g) (are_groups gs) e in
    cut_first 29 front (segments_text g ++ groups_text gs) lack ∙ ap (λ ps. front ∷ ps) (cut_groups gs (segments_text g) (segments_lack_group g (group_segments g parts.0)) parts.1)

-- the parts again
pair_again : (a b : ℕ) (id value : List ℕ) → id ≡ a ∷ b ∷ [] → field_of (id ++ value) ≡ record { id = id; value = value }
pair_again a b id value e = rw e refl

pub field_again : (f : FieldParts) → is_field f ≡ true → field_of (inner f) ≡ f
field_again f e =
    let parts = both (is_id f.id) (is_plain f.value) e in
    let id = pair_of f.id parts.0 in
    pair_again id.first id.second f.id f.value id.are

fields_again : (fs : List FieldParts) → are_fields fs ≡ true → map field_of (map inner fs) ≡ fs
fields_again [] e = refl
fields_again (f ∷ fs) e =
    let parts = both (is_field f) (are_fields fs) e in
    ap (λ g. g ∷ map field_of (map inner fs)) (field_again f parts.0) ∙ ap (λ gs. f ∷ gs) (fields_again fs parts.1)

segment_again : (s : SegmentParts) → is_segment s ≡ true → segment_of (inside s) ≡ s
segment_again s e =
    let parts = both (is_id s.id) (are_fields s.fields) e in
    ap (λ ps. segment_from ps) (cut_fields s.fields (65 ∷ 77 ∷ s.id) (name_lacks s e).field parts.1)
    ∙ ap (λ (fs : List FieldParts). record { id = s.id; fields = fs }) (fields_again s.fields parts.1)

segments_again_of : (ss : List SegmentParts) → are_segments ss ≡ true → map segment_of (map inside ss) ≡ ss
segments_again_of [] e = refl
segments_again_of (s ∷ ss) e =
    let parts = both (is_segment s) (are_segments ss) e in
    ap (λ r. r ∷ map segment_of (map inside ss)) (segment_again s parts.0) ∙ ap (λ rs. s ∷ rs) (segments_again_of ss parts.1)

segments_again : (ss : List SegmentParts) → are_segments ss ≡ true → segments_of (segments_text ss) ≡ ss
segments_again ss e = ap (λ ps. map segment_of (drop 1 ps)) (cut_segments ss [] (lacks-nil 30) e) ∙ segments_again_of ss e

groups_again_of : (gs : List (List SegmentParts)) → are_groups gs ≡ true → map segments_of (map segments_text gs) ≡ gs
groups_again_of [] e = refl
groups_again_of (g ∷ gs) e =
    let parts = both (is_group g) (are_groups gs) e in
    ap (λ h. h ∷ map segments_of (map segments_text gs)) (segments_again g (group_segments g parts.0)) ∙ ap (λ hs. g ∷ hs) (groups_again_of gs parts.1)

pub shared_again : (shared : List SegmentParts) (groups : List (List SegmentParts)) → are_segments shared ≡ true → are_groups groups ≡ true → shared_of (body_text shared groups) ≡ shared
shared_again shared groups s g = ap first_segments (cut_groups groups (segments_text shared) (segments_lack_group shared s) g) ∙ segments_again shared s

pub groups_again : (shared : List SegmentParts) (groups : List (List SegmentParts)) → are_segments shared ≡ true → are_groups groups ≡ true → groups_of (body_text shared groups) ≡ groups
groups_again shared groups s g = ap (λ ps. map segments_of (drop 1 ps)) (cut_groups groups (segments_text shared) (segments_lack_group shared s) g) ∙ groups_again_of groups g

-- how many groups there are
count-append : (xs bs : List ℕ) → count_groups (xs ++ bs) ≡ count_groups xs + count_groups bs
count-append [] bs = omega arith
count-append (a ∷ xs) bs = omega (arith, count-append xs bs)

count_none : (bs : List ℕ) → lacks 29 bs ≡ true → count_groups bs ≡ 0
count_none [] e = refl
count_none (b ∷ bs) e =
    let parts = lacks-head 29 b bs e in
    ap (λ t. cond t 1 0 + count_groups bs) parts.0 ∙ ap (λ n. 0 + n) (count_none bs parts.1)

count_in_groups : (gs : List (List SegmentParts)) → are_groups gs ≡ true → count_groups (groups_text gs) ≡ length gs
count_in_groups [] e = refl
count_in_groups (g ∷ gs) e =
    let parts = both (is_group g) (are_groups gs) e in
    let here : count_groups (segments_text g) ≡ 0 = count_none (segments_text g) (segments_lack_group g (group_segments g parts.0)) in
    let others : count_groups (groups_text gs) ≡ length gs = count_in_groups gs parts.1 in
    let whole : count_groups (segments_text g ++ groups_text gs) ≡ count_groups (segments_text g) + count_groups (groups_text gs) = count-append (segments_text g) (groups_text gs) in
    omega arith

pub count_in_body : (shared : List SegmentParts) (groups : List (List SegmentParts)) → are_segments shared ≡ true → are_groups groups ≡ true → count_groups (body_text shared groups) ≡ length groups
count_in_body shared groups s g =
    let here : count_groups (segments_text shared) ≡ 0 = count_none (segments_text shared) (segments_lack_group shared s) in
    let others : count_groups (groups_text groups) ≡ length groups = count_in_groups groups g in
    let whole : count_groups (body_text shared groups) ≡ count_groups (segments_text shared) + count_groups (groups_text groups) = count-append (segments_text shared) (groups_text groups) in
    omega arith
