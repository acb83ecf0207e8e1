-- Where lent fields lie in memory: each one is a slice of the text that was read.
use Rattle.std.specs.Prelude.{◌≡◌, ℕ, List, [], ◌∷◌, length}
use Rattle.std.specs.Global.{Vec}
use Rattle.d0_segments.specs.declared.field.Field.{Field}
use Rattle.d0_segments.specs.declared.segment.Segment.{Segment}
use Rattle.d0_segments.specs.Address.{beyond}
use Rattle.d0_segments.specs.Texts.{field_text, segment_text, segments_text, group_text}
use Rattle.d0_segments.specs.Views.{field_parts, segment_parts, segments_parts}

-- the values of fields whose text begins at the address: each lies after its separator and its id
abbrev pub FieldsLie : ℕ × ℕ → List Field → Type 0
FieldsLie at [] = Unit {0}
FieldsLie at (f ∷ fs) = (f.value.ref_ptr ≡ beyond at 3) × FieldsLie (beyond at (length (field_text (field_parts f)))) fs

-- the fields of segments whose text begins at the address: they begin after the identification
abbrev pub SegmentsLie : ℕ × ℕ → List Segment → Type 0
SegmentsLie at [] = Unit {0}
SegmentsLie at (s ∷ ss) = FieldsLie (beyond at 6) s.fields.items × SegmentsLie (beyond at (length (segment_text (segment_parts s)))) ss

-- the segments of groups whose text begins at the address: they begin after the group separator
abbrev pub GroupsLie : ℕ × ℕ → List (Vec Segment) → Type 0
GroupsLie at [] = Unit {0}
GroupsLie at (g ∷ gs) = SegmentsLie (beyond at 1) g.items × GroupsLie (beyond at (length (group_text (segments_parts g.items)))) gs

-- the shared segments and the groups of a transmission whose body begins at the address
pub record BodyLies (at : ℕ × ℕ) (ss : List Segment) (gs : List (Vec Segment)) : Type 0 where
  pub shared : SegmentsLie at ss
  pub groups : GroupsLie (beyond at (length (segments_text (segments_parts ss)))) gs
