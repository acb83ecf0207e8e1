-- The parts of framed bytes are segments and groups without a separator in their parts.
use Rattle.std.proofs.Common.{◌≡◌, ℕ, zero, suc, ◌+◌, ◌<◌, ◌≤◌, Bool, true, false, cond, eqb, ◌&&◌, ◌||◌, List, [], ◌∷◌, ◌++◌, map, length, get_or, take, drop, Option, Some, None, refl, sym, ap, subst, ◌∙◌, arith, take-append-drop, length-drop, ◌⊎◌, inl, inr}
use Rattle.std.proofs.lemmas.Bool.{eqb-true}
use Rattle.d0_header.specs.Response.{Response}
use Rattle.d0_header.specs.declared.fault.HeaderFault.{HeaderFault}
use Rattle.d0_segments.specs.declared.fault.FramingFault.{FramingFault}
use Rattle.d0_segments.specs.declared.fault.FramingFault.TheVariants.{EmptyGroup}
use Rattle.d0_segments.specs.Separators.{is_id, ends_here, ends_segment, ends_group, begins_with, plain_length}
use Rattle.d0_segments.specs.Parts.{FieldParts, SegmentParts, TransmissionParts, is_field, are_fields, are_segments, is_group, are_groups}
use Rattle.d0_segments.specs.Faults.{fault_at, first_fault, count_groups}
use Rattle.d0_segments.specs.Pieces.{segments_of, shared_of, groups_of}
use Rattle.d0_segments.specs.Inside.{is_inside, fields_left}
use Rattle.d0_segments.specs.Texts.{field_text}
use Rattle.d0_segments.specs.Framing.{response_kind, count_fault, body_fault, after_header, framing_fault, unless, transmission_of}
use Rattle.d0_segments.proofs.Cutting.{lacks, lacks-cons, inner, inner_lacks, name_lacks}
use Rattle.d0_segments.proofs.Walking.{first_of_two}
use Rattle.d0_segments.proofs.Marks.{plain_take, ends_drop}
use Rattle.d0_segments.proofs.Left.{over, fields_behind, segments_behind_field, segments_behind_name, no_fields, groups_behind}
use Rattle.d0_segments.proofs.Faultless.{neither, started, inside_facts, inside_body, IsFieldStart, field_start, behind_field, IsSegmentStart, segment_here, behind_name, behind_group}
use Rattle.d0_segments.proofs.Whole.{read_faultless}

-- the fields, segments and groups from a place on
pub record IsWellFramed (bs : List ℕ) : Type 0 where
  pub fields : are_fields (fields_left bs) ≡ true
  pub shared : are_segments (shared_of bs) ≡ true
  pub groups : are_groups (groups_of bs) ≡ true

groups_over : (xs bs : List ℕ) → lacks 29 xs ≡ true → groups_of (xs ++ bs) ≡ groups_of bs
groups_over xs bs e = ap (λ ps. map segments_of (drop 1 ps)) (over 29 xs bs e)

-- ---- a field

field_here : (bs : List ℕ) → IsFieldStart bs → FieldParts
field_here bs s = record { id = get_or bs 1 0 ∷ get_or bs 2 0 ∷ []; value = take (plain_length (drop 3 bs)) (drop 3 bs) }

-- what stands after the field
after_field : List ℕ → List ℕ
after_field bs = drop (plain_length (drop 3 bs)) (drop 3 bs)

after_shorter : (bs : List ℕ) → 3 ≤ length bs → length (after_field bs) < length bs
unfolding after_field
after_shorter bs long = omega (arith, length-drop (plain_length (drop 3 bs)) (drop 3 bs), length-drop 3 bs)

field_sound : (bs : List ℕ) (s : IsFieldStart bs) → is_field (field_here bs s) ≡ true
unfolding field_here
field_sound bs s = rw (s.first, s.second, plain_take (drop 3 bs)) refl

field_parted : (bs : List ℕ) (s : IsFieldStart bs) → bs ≡ field_text (field_here bs s) ++ after_field bs
unfolding field_here after_field
field_parted bs s = s.are ∙ ap (λ t. 28 ∷ get_or bs 1 0 ∷ get_or bs 2 0 ∷ t) (sym (take-append-drop (plain_length (drop 3 bs)) (drop 3 bs)))

field_ends : (bs : List ℕ) → ends_here (after_field bs) ≡ true
unfolding after_field
field_ends bs = ends_drop (drop 3 bs)

field_inside : (bs : List ℕ) → is_inside bs ≡ true → begins_with 28 bs ≡ true → is_inside (after_field bs) ≡ true
unfolding after_field
field_inside bs inside begins =
    let d = drop 3 bs in
    behind_field bs (take (plain_length d) d) (drop (plain_length d) d) inside begins (plain_take d) (ends_drop d) (sym (take-append-drop (plain_length d) d))

field_framed : (bs : List ℕ) (s : IsFieldStart bs) → IsWellFramed (after_field bs) → IsWellFramed bs
field_framed bs s w =
    let f = field_here bs s in
    let rest = after_field bs in
    let sound = field_sound bs s in
    let parted = field_parted bs s in
    let lack = inner_lacks f sound in
    record {
      fields = ap (λ t. are_fields (fields_left t)) parted ∙ ap are_fields (fields_behind f rest sound (field_ends bs)) ∙ ap (λ b. b && are_fields (fields_left rest)) sound ∙ w.fields;
      shared = ap (λ t. are_segments (shared_of t)) parted ∙ ap are_segments (segments_behind_field f rest sound) ∙ w.shared;
      groups = ap (λ t. are_groups (groups_of t)) parted ∙ ap are_groups (groups_over (28 ∷ inner f) rest (lacks-cons 29 28 (inner f) refl lack.group)) ∙ w.groups;
    }

-- ---- a segment

segment_framed : (bs : List ℕ) (s : IsSegmentStart bs) → begins_with 30 bs ≡ true → IsWellFramed (drop 6 bs) → IsWellFramed bs
segment_framed bs s begins w =
    let x = get_or bs 4 0 in
    let y = get_or bs 5 0 in
    let rest = drop 6 bs in
    let id : is_id (x ∷ y ∷ []) ≡ true = rw (s.first, s.second) refl in
    let name : SegmentParts = record { id = x ∷ y ∷ []; fields = [] } in
    let lack = name_lacks name (ap (λ t. t && true) id) in
    record {
      fields = ap are_fields (no_fields bs (ends bs begins));
      shared = ap (λ t. are_segments (shared_of t)) s.are ∙ ap are_segments (segments_behind_name x y rest id s.ends)
          ∙ ap (λ b. (b && are_fields (fields_left rest)) && are_segments (shared_of rest)) id
          ∙ ap (λ b. b && are_segments (shared_of rest)) w.fields ∙ w.shared;
      groups = ap (λ t. are_groups (groups_of t)) s.are
          ∙ ap are_groups (groups_over (30 ∷ 28 ∷ 65 ∷ 77 ∷ x ∷ y ∷ []) rest (lacks-cons 29 30 (28 ∷ 65 ∷ 77 ∷ x ∷ y ∷ []) refl (lacks-cons 29 28 (65 ∷ 77 ∷ x ∷ y ∷ []) refl lack.group)))
          ∙ w.groups;
    }
  where
    ends : (ds : List ℕ) → begins_with 30 ds ≡ true → ends_segment ds ≡ true
    ends [] e = absurd cc
    ends (d ∷ ds) e = ap (λ t. t || eqb d 29) e

-- ---- a group

filled_if : (b : Bool) (p : ℕ) (later : Option FramingFault) → cond b (Some (EmptyGroup p)) later ≡ None → b ≡ false
filled_if true p later e = absurd cc
filled_if false p later e = refl

-- after a group separator a segment begins
begins_segment : (bs : List ℕ) → ends_group bs ≡ false → ends_segment bs ≡ true → begins_with 30 bs ≡ true
begins_segment [] not_end ends = absurd cc
begins_segment (b ∷ bs) not_end ends = by_cases (first_of_two (eqb b 30) (eqb b 29) ends)
  where
    by_cases : (eqb b 30 ≡ true) ⊎ (eqb b 29 ≡ true) → eqb b 30 ≡ true
    by_cases (inl e) = e
    by_cases (inr e) = absurd (let h : true ≡ false = sym e ∙ not_end in cc)

group_filled : (bs : List ℕ) → first_fault 0 0 (29 ∷ bs) ≡ None → begins_with 30 bs ≡ true
group_filled bs none =
    let h = neither (fault_at 0 0 29 bs) (first_fault 29 (0 + 1) bs) none in
    begins_segment bs (filled_if (ends_group bs) 0 _ h.0) (started (0 + 1) bs h.1)

-- the segments of a place where one begins
some_segments : (bs : List ℕ) → is_inside bs ≡ true → begins_with 30 bs ≡ true → are_segments (shared_of bs) ≡ true → is_group (shared_of bs) ≡ true
some_segments bs inside begins are =
    let s = segment_here bs inside begins in
    let x = get_or bs 4 0 in
    let y = get_or bs 5 0 in
    let is = ap shared_of s.are ∙ segments_behind_name x y (drop 6 bs) (rw (s.first, s.second) refl) s.ends in
    ap is_group is ∙ sym (ap are_segments is) ∙ are

group_framed : (b : ℕ) (bs : List ℕ) → eqb b 29 ≡ true → is_inside (b ∷ bs) ≡ true → IsWellFramed bs → IsWellFramed (b ∷ bs)
group_framed b bs at inside w =
    let is : b ≡ 29 = eqb-true b 29 at in
    let none : first_fault 0 0 (29 ∷ bs) ≡ None = ap (λ c. first_fault 0 0 (c ∷ bs)) (sym is) ∙ (inside_facts (b ∷ bs) inside).1 in
    let filled = group_filled bs none in
    let below : is_inside bs ≡ true = behind_group (b ∷ bs) 0 inside (omega arith) at in
    record {
      fields = ap are_fields (no_fields (b ∷ bs) (ap (λ c. ends_segment (c ∷ bs)) is));
      shared = ap (λ c. are_segments (shared_of (c ∷ bs))) is;
      groups = ap are_groups (groups_behind (b ∷ bs) 0 (omega arith) (λ j low lt. absurd (omega (arith, lt))) at)
          ∙ ap (λ t. t && are_groups (groups_of bs)) (some_segments bs below filled w.shared) ∙ w.groups;
    }

-- ---- from any place on

nothing_framed : IsWellFramed []
nothing_framed = record { fields = ap are_fields (no_fields [] refl); shared = refl; groups = refl }

by_byte : (n b : ℕ) (bs : List ℕ) (f g s : Bool) → ((ds : List ℕ) → length ds ≤ n → is_inside ds ≡ true → IsWellFramed ds) → length (b ∷ bs) ≤ suc n → is_inside (b ∷ bs) ≡ true
    → eqb b 28 ≡ f → eqb b 29 ≡ g → eqb b 30 ≡ s → (f || g || s) ≡ true → IsWellFramed (b ∷ bs)
by_byte n b bs true g s later few inside ef eg es e =
    let start = field_start (b ∷ bs) inside ef in
    field_framed (b ∷ bs) start (later (after_field (b ∷ bs)) (omega (arith, after_shorter (b ∷ bs) start.long)) (field_inside (b ∷ bs) inside ef))
by_byte n b bs false true s later few inside ef eg es e =
    group_framed b bs eg inside (later bs (omega arith) (behind_group (b ∷ bs) 0 inside (omega arith) eg))
by_byte n b bs false false true later few inside ef eg es e =
    let start = segment_here (b ∷ bs) inside es in
    segment_framed (b ∷ bs) start es (later (drop 6 (b ∷ bs)) (omega (arith, length-drop 6 (b ∷ bs), start.long)) (behind_name (b ∷ bs) inside es))
by_byte n b bs false false false later few inside ef eg es e = absurd cc

well_framed_of : (n : ℕ) (bs : List ℕ) → length bs ≤ n → is_inside bs ≡ true → IsWellFramed bs
well_framed_of n [] few inside = nothing_framed
well_framed_of zero (b ∷ bs) few inside = absurd (omega arith)
well_framed_of (suc n) (b ∷ bs) few inside = by_byte n b bs (eqb b 28) (eqb b 29) (eqb b 30) (well_framed_of n) few inside refl refl refl (inside_facts (b ∷ bs) inside).0

-- ---- a whole text

none_first : (o : Option HeaderFault) (later : Option FramingFault) → after_header o later ≡ None → later ≡ None
none_first None later e = e
none_first (Some f) later e = absurd cc

faultless_body : (bytes : List ℕ) → framing_fault response_kind bytes ≡ None → first_fault 29 31 (drop 31 bytes) ≡ None
unfolding framing_fault
faultless_body bytes e =
    let body = drop 31 bytes in
    let said = response_kind.said (response_kind.header_of bytes) in
    (neither (first_fault 29 31 body) (count_fault said (count_groups body)) (none_first (response_kind.fault bytes) (body_fault said 31 body) e)).0

pub record HasParts (t : TransmissionParts Response) : Type 0 where
  pub shared : are_segments t.shared ≡ true
  pub groups : are_groups t.groups ≡ true

parts_of : (o : Option FramingFault) (u t : TransmissionParts Response) → HasParts u → unless o u ≡ Some t → HasParts t
parts_of None u t h e = let same : u ≡ t = cc in subst HasParts same h
parts_of (Some f) u t h e = absurd cc

pub framed_has_parts : (bytes : List ℕ) (t : TransmissionParts Response) → transmission_of response_kind bytes ≡ Some t → HasParts t
unfolding transmission_of
framed_has_parts bytes t e =
    let body = drop 31 bytes in
    let none = faultless_body bytes (read_faultless response_kind bytes t e) in
    let w = well_framed_of (length body) body (omega arith) (inside_body 31 body (started 31 body none) none) in
    parts_of (framing_fault response_kind bytes) _ t (record { shared = w.shared; groups = w.groups }) e
