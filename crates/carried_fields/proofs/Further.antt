-- The fields of an advice that stand beside a book's own are none of those that a ruling is read from.
use Rattle.std.proofs.Common.{◌≡◌, ℕ, Bool, true, false, cond, not, ◌&&◌, List, [], ◌∷◌, ◌++◌, map, filter, codes, refl, sym, ap, ◌∙◌}
use Rattle.std.specs.List.{flat_map}
use Rattle.std.specs.Str.{bytes_eq}
use Rattle.std.proofs.lemmas.List.{append-nil}
use Rattle.std.proofs.lemmas.List.Elements.{filter-append}
use Rattle.std.proofs.lemmas.Slice.Eq.{bytes_eq-Decides}
use Rattle.d0_segments.specs.Parts.{FieldParts, SegmentParts}
use Rattle.claim_profile.specs.Fields.{is_filled, values, fields_of}
use Rattle.carried_fields.specs.Occurrences.{behind_codes_in, beside}
use Rattle.carried_fields.specs.Merging.{is_own, further_fields, merged_segment, merged_segments, has_segment, further_segments, merged}
use Rattle.carried_fields.proofs.CodeOccurrences.{occurrence_name, beside_unseen}

pub bytes_same : (a b : List ℕ) → bytes_eq a b ≡ true → a ≡ b
bytes_same a b e = (bytes_eq-Decides a b).0 e

-- the fields of a name
abbrev pub named : List ℕ → List FieldParts → List FieldParts
named name fields = filter (λ f. bytes_eq f.id name) fields

abbrev all_fields : List SegmentParts → List FieldParts
all_fields segments = flat_map (λ (s : SegmentParts). s.fields) segments

-- the segments of one identification
abbrev pub identified : List ℕ → List SegmentParts → List SegmentParts
identified id segments = filter (λ s. bytes_eq s.id id) segments

-- none of the further fields has the name of an own one
named_next : (id name : List ℕ) (f : FieldParts) (fs : List FieldParts) (o b : Bool) → is_own id name ≡ true → is_own id f.id ≡ o → bytes_eq f.id name ≡ b → named name (further_fields id fs) ≡ []
    → named name (cond (not o) (f ∷ further_fields id fs) (further_fields id fs)) ≡ []
named_next id name f fs true b own is same later = later
named_next id name f fs false true own is same later =
    absurd (let h : false ≡ true = sym is ∙ ap (is_own id) (bytes_same f.id name same) ∙ own in cc)
named_next id name f fs false false own is same later = ap (λ t. cond t (f ∷ named name (further_fields id fs)) (named name (further_fields id fs))) same ∙ later

named_further : (id name : List ℕ) (fs : List FieldParts) → is_own id name ≡ true → named name (further_fields id fs) ≡ []
named_further id name [] own = refl
named_further id name (f ∷ fs) own = named_next id name f fs (is_own id f.id) (bytes_eq f.id name) own refl refl (named_further id name fs own)

-- an own name that a ruling is read from: not that of where a code occurs
abbrev pub is_read : (id name : List ℕ) → Bool
is_read id name = is_own id name && not (bytes_eq (codes "4F") name)

apart : (a b : Bool) → (a && not b) ≡ true → (a ≡ true) × (b ≡ false)
apart true true e = absurd cc
apart true false e = (refl, refl)
apart false b e = absurd cc

named_beside : (name : List ℕ) (told : List (List FieldParts)) (own : List FieldParts) → bytes_eq (codes "4F") name ≡ false → named name (beside told own) ≡ named name own
named_beside name told own other = beside_unseen (λ f. bytes_eq f.id name) (λ f is. ap (λ id. bytes_eq id name) (occurrence_name f is) ∙ other) told own

-- nothing of such a name is added to a segment
two_parts : (name : List ℕ) (a b c : List FieldParts) → named name b ≡ [] → named name ((a ++ b) ++ c) ≡ named name a ++ named name c
two_parts name a b c none =
    filter-append (λ f. bytes_eq f.id name) (a ++ b) c
    ∙ ap (λ fs. fs ++ named name c) (filter-append (λ f. bytes_eq f.id name) a b ∙ ap (λ fs. named name a ++ fs) none ∙ append-nil (named name a))

segment_next : (id name : List ℕ) (said : List SegmentParts) (s : SegmentParts) (xs ys : List SegmentParts) (b : Bool) → is_own id name ≡ true → bytes_eq (codes "4F") name ≡ false → bytes_eq s.id id ≡ b
    → named name (all_fields xs) ≡ named name (all_fields ys) → named name (all_fields (cond b (merged_segment said s ∷ xs) xs)) ≡ named name (all_fields (cond b (s ∷ ys) ys))
segment_next id name said s xs ys true own other here later =
    let same : is_own s.id name ≡ true = ap (λ t. is_own t name) (bytes_same s.id id here) ∙ own in
    two_parts name (beside (behind_codes_in s.id said) s.fields) (further_fields s.id (fields_of s.id said)) (all_fields xs) (named_further s.id name (fields_of s.id said) same)
    ∙ (λ i. named_beside name (behind_codes_in s.id said) s.fields other i ++ later i)
    ∙ sym (filter-append (λ f. bytes_eq f.id name) s.fields (all_fields ys))
segment_next id name said s xs ys false own other here later = later

named_merged : (id name : List ℕ) (said own : List SegmentParts) → is_own id name ≡ true → bytes_eq (codes "4F") name ≡ false → named name (fields_of id (merged_segments said own)) ≡ named name (fields_of id own)
unfolding fields_of
named_merged id name said [] own other = refl
named_merged id name said (s ∷ ss) own other =
    segment_next id name said s (identified id (merged_segments said ss)) (identified id ss) (bytes_eq s.id id) own other refl (named_merged id name said ss own other)

-- the further segments have another identification
others_next : (id : List ℕ) (own : List SegmentParts) (s : SegmentParts) (rest : List SegmentParts) (o b : Bool) → has_segment own id ≡ true → has_segment own s.id ≡ o → bytes_eq s.id id ≡ b
    → identified id rest ≡ [] → identified id (cond (not o) (s ∷ rest) rest) ≡ []
others_next id own s rest true b has is same later = later
others_next id own s rest false true has is same later =
    absurd (let h : false ≡ true = sym is ∙ ap (has_segment own) (bytes_same s.id id same) ∙ has in cc)
others_next id own s rest false false has is same later = ap (λ t. cond t (s ∷ identified id rest) (identified id rest)) same ∙ later

others_none : (id : List ℕ) (own said : List SegmentParts) → has_segment own id ≡ true → identified id (further_segments own said) ≡ []
others_none id own [] has = refl
others_none id own (s ∷ said) has =
    others_next id own s (further_segments own said) (has_segment own s.id) (bytes_eq s.id id) has refl refl (others_none id own said has)

pub merged_here : (id : List ℕ) (own said : List SegmentParts) → has_segment own id ≡ true → identified id (merged own said) ≡ identified id (merged_segments said own)
merged_here id own said has =
    filter-append (λ s. bytes_eq s.id id) (merged_segments said own) (further_segments own said)
    ∙ ap (λ ss. identified id (merged_segments said own) ++ ss) (others_none id own said has)
    ∙ append-nil (identified id (merged_segments said own))

fields_merged : (id : List ℕ) (own said : List SegmentParts) → has_segment own id ≡ true → fields_of id (merged own said) ≡ fields_of id (merged_segments said own)
unfolding fields_of
fields_merged id own said has = ap all_fields (merged_here id own said has)

-- the values of a field that a ruling is read from are those that the book wrote
pub own_values : (reading : List ℕ → List ℕ) (id name : List ℕ) (own said : List SegmentParts) → is_read id name ≡ true → has_segment own id ≡ true
    → values reading name (fields_of id (merged own said)) ≡ values reading name (fields_of id own)
unfolding values
own_values reading id name own said is has =
    let h = apart (is_own id name) (bytes_eq (codes "4F") name) is in
    ap (λ fs. filter is_filled (map (λ (f : FieldParts). reading f.value) fs)) (ap (named name) (fields_merged id own said has) ∙ named_merged id name said own h.0 h.1)
