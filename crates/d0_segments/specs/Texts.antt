-- The text of fields, segments and groups: the grammar, from the value to its bytes.
use Rattle.std.specs.Prelude.{ℕ, List, [], ◌∷◌, ◌++◌}
use Rattle.d0_segments.specs.Separators.{field_separator, group_separator, segment_separator}
use Rattle.d0_segments.specs.Parts.{FieldParts, SegmentParts}

-- the field separator, the id and the value
abbrev pub field_text : FieldParts → List ℕ
field_text f = field_separator ∷ f.id ++ f.value

-- one field after the other
abbrev pub fields_text : List FieldParts → List ℕ
fields_text [] = []
fields_text (f ∷ fs) = field_text f ++ fields_text fs

-- the segment separator, the field AM with the identification, and the further fields
abbrev pub segment_text : SegmentParts → List ℕ
segment_text s = segment_separator ∷ field_text (record { id = 65 ∷ 77 ∷ []; value = s.id }) ++ fields_text s.fields

-- one segment after the other
abbrev pub segments_text : List SegmentParts → List ℕ
segments_text [] = []
segments_text (s ∷ ss) = segment_text s ++ segments_text ss

-- the group separator and the segments
abbrev pub group_text : List SegmentParts → List ℕ
group_text g = group_separator ∷ segments_text g

-- one group after the other
abbrev pub groups_text : List (List SegmentParts) → List ℕ
groups_text [] = []
groups_text (g ∷ gs) = group_text g ++ groups_text gs

-- what stands after the header: the shared segments and the groups
abbrev pub body_text : List SegmentParts → List (List SegmentParts) → List ℕ
body_text shared groups = segments_text shared ++ groups_text groups
