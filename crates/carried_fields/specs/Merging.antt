-- The segments of a book's answer with the fields of an advice that it does not write itself.
use Rattle.std.specs.Prelude.{ℕ, Bool, false, not, ◌||◌, List, [], ◌∷◌, ◌++◌, map, filter, bytes_eq, codes, if◌then◌else◌}
use Rattle.d0_segments.specs.Parts.{FieldParts, SegmentParts}
use Rattle.claim_profile.specs.Fields.{fields_of}
use Rattle.carried_fields.specs.Occurrences.{behind_codes_in, beside}

-- whether the field of this name is a book's own: status, authorization number and reject codes (AM21), with where each of these occurs, which is carried
-- behind its code alone; prescription number (AM22); amounts (AM23)
abbrev pub is_own : (id name : List ℕ) → Bool
is_own id name =
    if bytes_eq id (codes "21") then bytes_eq name (codes "AN") || bytes_eq name (codes "F3") || bytes_eq name (codes "FA") || bytes_eq name (codes "FB") || bytes_eq name (codes "4F")
    else if bytes_eq id (codes "22") then bytes_eq name (codes "EM") || bytes_eq name (codes "D2")
    else if bytes_eq id (codes "23") then bytes_eq name (codes "F5") || bytes_eq name (codes "F6") || bytes_eq name (codes "F7") || bytes_eq name (codes "F9")
    else false

-- the fields of a segment of this identification that a book does not write itself
abbrev pub further_fields : List ℕ → List FieldParts → List FieldParts
further_fields id fields = filter (λ f. not (is_own id f.id)) fields

-- a book's segment, behind each of its codes where that occurs, and after its fields the further ones of the segments of its identification
abbrev pub merged_segment : (said : List SegmentParts) → SegmentParts → SegmentParts
merged_segment said s = record { id = s.id; fields = beside (behind_codes_in s.id said) s.fields ++ further_fields s.id (fields_of s.id said) }

abbrev pub merged_segments : (said own : List SegmentParts) → List SegmentParts
merged_segments said own = map (merged_segment said) own

-- whether a segment of this identification is among them
abbrev pub has_segment : (own : List SegmentParts) (id : List ℕ) → Bool
has_segment [] id = false
has_segment (s ∷ own) id = bytes_eq s.id id || has_segment own id

-- the segments whose identification none of the book's has
abbrev pub further_segments : (own said : List SegmentParts) → List SegmentParts
further_segments own said = filter (λ s. not (has_segment own s.id)) said

-- a book's group with what an advice's group has beside it
abbrev pub merged : (own said : List SegmentParts) → List SegmentParts
merged own said = merged_segments said own ++ further_segments own said

-- a group carries where both rulings agree
abbrev pub carried_group : (agrees : Bool) (own said : List SegmentParts) → List SegmentParts
carried_group agrees own said = if agrees then merged own said else own

-- the groups of a book's answer, in each place where it agrees with what the advice's group has beside it
abbrev pub carried_groups : List Bool → (own said : List (List SegmentParts)) → List (List SegmentParts)
carried_groups [] own said = own
carried_groups (b ∷ bs) [] said = []
carried_groups (b ∷ bs) (g ∷ own) [] = g ∷ own
carried_groups (b ∷ bs) (g ∷ own) (s ∷ said) = carried_group b g s ∷ carried_groups bs own said
