-- The parts of a text, cut at its separators.
use Rattle.std.specs.Prelude.{ℕ, List, [], ◌∷◌, take, drop, map, ◌==◌, if◌then◌else◌}
use Rattle.d0_segments.specs.Separators.{field_separator, group_separator, segment_separator}
use Rattle.d0_segments.specs.Parts.{FieldParts, SegmentParts}

-- a byte in front of the first piece
abbrev pub onto : ℕ → List (List ℕ) → List (List ℕ)
onto byte [] = (byte ∷ []) ∷ []
onto byte (piece ∷ pieces) = (byte ∷ piece) ∷ pieces

-- the pieces between the places of one separator: one more than there are separators
abbrev pub pieces : (separator : ℕ) → List ℕ → List (List ℕ)
pieces separator [] = [] ∷ []
pieces separator (b ∷ bs) = if b == separator then [] ∷ pieces separator bs else onto b (pieces separator bs)

-- two bytes of id, and the value
abbrev pub field_of : List ℕ → FieldParts
field_of piece = record { id = take 2 piece; value = drop 2 piece }

-- the bytes after AM, and the further fields
abbrev pub segment_from : List (List ℕ) → SegmentParts
segment_from [] = record { id = []; fields = [] }
segment_from (name ∷ fields) = record { id = drop 2 name; fields = map field_of fields }

-- cut at the field separators
abbrev pub segment_of : List ℕ → SegmentParts
segment_of piece = segment_from (drop 1 (pieces field_separator piece))

-- cut at the segment separators
abbrev pub segments_of : List ℕ → List SegmentParts
segments_of piece = map segment_of (drop 1 (pieces segment_separator piece))

-- the segments in front of the first group
abbrev pub first_segments : List (List ℕ) → List SegmentParts
first_segments [] = []
first_segments (piece ∷ others) = segments_of piece

-- cut at the group separators
abbrev pub shared_of : List ℕ → List SegmentParts
shared_of body = first_segments (pieces group_separator body)

abbrev pub groups_of : List ℕ → List (List SegmentParts)
groups_of body = map segments_of (drop 1 (pieces group_separator body))
