-- A group that carries has no separator in its parts.
use Rattle.std.proofs.Common.{◌≡◌, ℕ, Bool, true, false, cond, not, List, [], ◌∷◌, ◌++◌, drop, filter, refl}
use Rattle.std.specs.List.{flat_map, AllByRecursion}
use Rattle.std.specs.Str.{bytes_eq}
use Rattle.d0_segments.specs.Separators.{is_id}
use Rattle.d0_segments.specs.Parts.{FieldParts, SegmentParts, is_field, are_fields, is_segment, are_segments, is_group, are_groups}
use Rattle.d0_segments.proofs.Walking.{both}
use Rattle.claim_profile.specs.Fields.{fields_of}
use Rattle.carried_fields.specs.Occurrences.{is_code, is_occurrence, leading, behind_codes, behind_codes_in, first_occurrence, beside}
use Rattle.carried_fields.specs.Merging.{is_own, further_fields, merged_segment, merged_segments, has_segment, further_segments, merged, carried_group, carried_groups}

fields_joined : (fs gs : List FieldParts) → are_fields fs ≡ true → are_fields gs ≡ true → are_fields (fs ++ gs) ≡ true
fields_joined [] gs a b = b
fields_joined (f ∷ fs) gs a b = let h = both (is_field f) (are_fields fs) a in rw (h.0, fields_joined fs gs h.1 b) refl

fields_filtered : (test : FieldParts → Bool) (fs : List FieldParts) → are_fields fs ≡ true → are_fields (filter test fs) ≡ true
fields_filtered test [] a = refl
fields_filtered test (f ∷ fs) a = let h = both (is_field f) (are_fields fs) a in by_test (test f) h.0 (fields_filtered test fs h.1)
  where
    by_test : (b : Bool) → is_field f ≡ true → are_fields (filter test fs) ≡ true → are_fields (cond b (f ∷ filter test fs) (filter test fs)) ≡ true
    by_test true e later = rw (e, later) refl
    by_test false e later = later

segments_joined : (ss us : List SegmentParts) → are_segments ss ≡ true → are_segments us ≡ true → are_segments (ss ++ us) ≡ true
segments_joined [] us a b = b
segments_joined (s ∷ ss) us a b = let h = both (is_segment s) (are_segments ss) a in rw (h.0, segments_joined ss us h.1 b) refl

segments_filtered : (test : SegmentParts → Bool) (ss : List SegmentParts) → are_segments ss ≡ true → are_segments (filter test ss) ≡ true
segments_filtered test [] a = refl
segments_filtered test (s ∷ ss) a = let h = both (is_segment s) (are_segments ss) a in by_test (test s) h.0 (segments_filtered test ss h.1)
  where
    by_test : (b : Bool) → is_segment s ≡ true → are_segments (filter test ss) ≡ true → are_segments (cond b (s ∷ filter test ss) (filter test ss)) ≡ true
    by_test true e later = rw (e, later) refl
    by_test false e later = later

all_fields_framed : (ss : List SegmentParts) → are_segments ss ≡ true → are_fields (flat_map (λ (s : SegmentParts). s.fields) ss) ≡ true
all_fields_framed [] a = refl
all_fields_framed (s ∷ ss) a =
    let h = both (is_segment s) (are_segments ss) a in
    fields_joined s.fields (flat_map (λ (s : SegmentParts). s.fields) ss) (both (is_id s.id) (are_fields s.fields) h.0).1 (all_fields_framed ss h.1)

fields_of_framed : (id : List ℕ) (ss : List SegmentParts) → are_segments ss ≡ true → are_fields (fields_of id ss) ≡ true
unfolding fields_of
fields_of_framed id ss a = all_fields_framed (filter (λ s. bytes_eq s.id id) ss) (segments_filtered (λ s. bytes_eq s.id id) ss a)

-- ---- where codes occur

-- what is told behind each of some codes has no separator in its parts
abbrev AreFramed : List (List FieldParts) → Type 0
AreFramed told = AllByRecursion (λ fs. are_fields fs ≡ true) told

told_joined : (told later : List (List FieldParts)) → AreFramed told → AreFramed later → AreFramed (told ++ later)
told_joined [] later a b = b
told_joined (fs ∷ told) later a b = (a.0, told_joined told later a.1 b)

behind_framed : (fs : List FieldParts) → are_fields fs ≡ true → AreFramed (behind_codes fs)
behind_framed [] a = tt
behind_framed (f ∷ fs) a = let h = both (is_field f) (are_fields fs) a in by_code (is_code f) h.1 (behind_framed fs h.1)
  where
    by_code : (b : Bool) → are_fields fs ≡ true → AreFramed (behind_codes fs) → AreFramed (cond b (fs ∷ behind_codes fs) (behind_codes fs))
    by_code true e later = (e, later)
    by_code false e later = later

all_behind_framed : (ss : List SegmentParts) → are_segments ss ≡ true → AreFramed (flat_map (λ (s : SegmentParts). behind_codes s.fields) ss)
all_behind_framed [] a = tt
all_behind_framed (s ∷ ss) a =
    let h = both (is_segment s) (are_segments ss) a in
    told_joined (behind_codes s.fields) (flat_map (λ (s : SegmentParts). behind_codes s.fields) ss) (behind_framed s.fields (both (is_id s.id) (are_fields s.fields) h.0).1) (all_behind_framed ss h.1)

behind_in_framed : (id : List ℕ) (ss : List SegmentParts) → are_segments ss ≡ true → AreFramed (behind_codes_in id ss)
behind_in_framed id ss a = all_behind_framed (filter (λ s. bytes_eq s.id id) ss) (segments_filtered (λ s. bytes_eq s.id id) ss a)

leading_framed : (fs : List FieldParts) → are_fields fs ≡ true → are_fields (leading fs) ≡ true
leading_framed [] a = refl
leading_framed (f ∷ fs) a = by_name (is_occurrence f) (both (is_field f) (are_fields fs) a).0
  where
    by_name : (b : Bool) → is_field f ≡ true → are_fields (cond b (f ∷ []) []) ≡ true
    by_name true e = rw e refl
    by_name false e = refl

first_framed : (told : List (List FieldParts)) → AreFramed told → are_fields (first_occurrence told) ≡ true
first_framed [] a = refl
first_framed (fs ∷ told) a = leading_framed fs a.0

later_framed : (told : List (List FieldParts)) → AreFramed told → AreFramed (drop 1 told)
later_framed [] a = tt
later_framed (fs ∷ told) a = a.1

beside_framed : (told : List (List FieldParts)) (own : List FieldParts) → AreFramed told → are_fields own ≡ true → are_fields (beside told own) ≡ true
beside_framed told [] a e = refl
beside_framed told (f ∷ own) a e =
    let h = both (is_field f) (are_fields own) e in
    rw (h.0, by_code (is_code f) (beside_framed (drop 1 told) own (later_framed told a) h.1) (beside_framed told own a h.1)) refl
  where
    by_code : (b : Bool) → are_fields (beside (drop 1 told) own) ≡ true → are_fields (beside told own) ≡ true → are_fields (cond b (first_occurrence told ++ beside (drop 1 told) own) (beside told own)) ≡ true
    by_code true behind same = fields_joined (first_occurrence told) (beside (drop 1 told) own) (first_framed told a) behind
    by_code false behind same = same

-- ---- segments and groups

segment_merged : (said : List SegmentParts) (s : SegmentParts) → are_segments said ≡ true → is_segment s ≡ true → is_segment (merged_segment said s) ≡ true
segment_merged said s are is =
    let h = both (is_id s.id) (are_fields s.fields) is in
    let own = beside_framed (behind_codes_in s.id said) s.fields (behind_in_framed s.id said are) h.1 in
    let further = fields_filtered (λ f. not (is_own s.id f.id)) (fields_of s.id said) (fields_of_framed s.id said are) in
    rw (h.0, fields_joined (beside (behind_codes_in s.id said) s.fields) (further_fields s.id (fields_of s.id said)) own further) refl

segments_merged : (said own : List SegmentParts) → are_segments said ≡ true → are_segments own ≡ true → are_segments (merged_segments said own) ≡ true
segments_merged said [] are is = refl
segments_merged said (s ∷ own) are is =
    let h = both (is_segment s) (are_segments own) is in
    rw (segment_merged said s are h.0, segments_merged said own are h.1) refl

pub segments_of_group : (g : List SegmentParts) → is_group g ≡ true → are_segments g ≡ true
segments_of_group [] e = refl
segments_of_group (s ∷ g) e = e

group_merged : (own said : List SegmentParts) → is_group own ≡ true → is_group said ≡ true → is_group (merged own said) ≡ true
group_merged [] said own is = absurd cc
group_merged (s ∷ own) said e is =
    segments_joined (merged_segments said (s ∷ own)) (further_segments (s ∷ own) said) (segments_merged said (s ∷ own) (segments_of_group said is) e)
    (segments_filtered (λ x. not (has_segment (s ∷ own) x.id)) said (segments_of_group said is))

group_carried : (b : Bool) (own said : List SegmentParts) → is_group own ≡ true → is_group said ≡ true → is_group (carried_group b own said) ≡ true
group_carried true own said e is = group_merged own said e is
group_carried false own said e is = e

pub groups_carried : (bs : List Bool) (own said : List (List SegmentParts)) → are_groups own ≡ true → are_groups said ≡ true → are_groups (carried_groups bs own said) ≡ true
groups_carried [] own said e is = e
groups_carried (b ∷ bs) [] said e is = refl
groups_carried (b ∷ bs) (g ∷ own) [] e is = e
groups_carried (b ∷ bs) (g ∷ own) (s ∷ said) e is =
    let h = both (is_group g) (are_groups own) e in
    let k = both (is_group s) (are_groups said) is in
    rw (group_carried b g s h.0 k.0, groups_carried bs own said h.1 k.1) refl
