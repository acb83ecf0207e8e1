-- What a transmission is made of, apart from where its bytes lie in memory.
use Rattle.std.specs.Prelude.{ℕ, List, [], ◌∷◌, Bool, true, false, ◌&&◌}
use Rattle.d0_segments.specs.Separators.{is_id, is_plain}

-- a field: two bytes that name it, and its value
pub record FieldParts : Type 0 where
  pub id : List ℕ
  pub value : List ℕ

-- a segment: the two bytes that identify it, and the fields after its identification
pub record SegmentParts : Type 0 where
  pub id : List ℕ
  pub fields : List FieldParts

-- a transmission: its header, the segments that belong to all of it, and the segments of each transaction
pub record TransmissionParts (H : Type 0) : Type 0 where
  pub header : H
  pub shared : List SegmentParts
  pub groups : List (List SegmentParts)

-- neither the id nor the value of a field has a separator, and the id has two bytes
abbrev pub is_field : FieldParts → Bool
is_field f = is_id f.id && is_plain f.value

-- each of them is a field
abbrev pub are_fields : List FieldParts → Bool
are_fields [] = true
are_fields (f ∷ fs) = is_field f && are_fields fs

-- the identification of a segment is two bytes without a separator, and each of its fields is one
abbrev pub is_segment : SegmentParts → Bool
is_segment s = is_id s.id && are_fields s.fields

-- each of them is a segment
abbrev pub are_segments : List SegmentParts → Bool
are_segments [] = true
are_segments (s ∷ ss) = is_segment s && are_segments ss

-- a group has a segment at least
abbrev pub is_group : List SegmentParts → Bool
is_group [] = false
is_group (s ∷ ss) = is_segment s && are_segments ss

-- each of them is a group
abbrev pub are_groups : List (List SegmentParts) → Bool
are_groups [] = true
are_groups (g ∷ gs) = is_group g && are_groups gs
