-- What a cursor finds, beside what is left of the bytes from its place on.
use Rattle.std.specs.Prelude.{◌≡◌, ℕ, List, [], ◌∷◌, Option, MatchOption}
use Rattle.d0_segments.specs.declared.field.Field.{Field}
use Rattle.d0_segments.specs.declared.cursor.Cursor.{Cursor}
use Rattle.d0_segments.specs.declared.cursor.SegmentAt.{SegmentAt}
use Rattle.d0_segments.specs.Parts.{SegmentParts}
use Rattle.d0_segments.specs.Views.{field_parts}
use Rattle.d0_segments.specs.Pieces.{shared_of, groups_of}
use Rattle.d0_segments.specs.Inside.{fields_left}

-- the next field of the segment and the place after it; nothing where no field is left
abbrev pub FindsField : List ℕ → Option (Field × Cursor) → Type 0
FindsField bytes found = MatchOption found (fields_left bytes ≡ []) (λ x. fields_left bytes ≡ field_parts x.0 ∷ fields_left x.1.bytes.now)

-- a segment in place
abbrev pub segment_at : SegmentAt → SegmentParts
segment_at s = record { id = s.first ∷ s.second ∷ []; fields = fields_left s.fields.bytes.now }

-- the next segment of the group; nothing where none is left
abbrev pub FindsSegment : List ℕ → Option SegmentAt → Type 0
FindsSegment bytes found = MatchOption found (shared_of bytes ≡ []) (λ s. shared_of bytes ≡ segment_at s ∷ shared_of s.fields.bytes.now)

-- the place where the segments of the next group begin; nothing where none is left
abbrev pub FindsGroup : List ℕ → Option Cursor → Type 0
FindsGroup bytes found = MatchOption found (groups_of bytes ≡ []) (λ x. groups_of bytes ≡ shared_of x.bytes.now ∷ groups_of x.bytes.now)
