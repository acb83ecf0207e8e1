-- What is left at a place of framed bytes.
use Rattle.std.specs.Prelude.{ℕ, List, [], ◌∷◌, drop, map, Bool, ◌&&◌, is_none}
use Rattle.d0_segments.specs.Separators.{field_separator, group_separator, segment_separator, ends_here}
use Rattle.d0_segments.specs.Parts.{FieldParts, SegmentParts}
use Rattle.d0_segments.specs.Faults.{first_fault}
use Rattle.d0_segments.specs.Pieces.{pieces, field_of}

-- whether a field, a segment or a group begins here, or the end, and no row of the fault table stands from here on
unfoldable pub is_inside : List ℕ → Bool
is_inside bytes = ends_here bytes && is_none (first_fault 0 0 bytes)

-- the first piece
abbrev pub first_piece : List (List ℕ) → List ℕ
first_piece [] = []
first_piece (piece ∷ others) = piece

-- the bytes in front of the next segment or group
abbrev pub front_of : List ℕ → List ℕ
front_of bytes = first_piece (pieces segment_separator (first_piece (pieces group_separator bytes)))

-- the fields in front of the next segment or group
unfoldable pub fields_left : List ℕ → List FieldParts
fields_left bytes = map field_of (drop 1 (pieces field_separator (front_of bytes)))

-- a segment of this identification, of which the fields at this place are left, as a list of one
abbrev pub segment_left : (id bytes : List ℕ) → List SegmentParts
segment_left id bytes = record { id = id; fields = fields_left bytes } ∷ []
