-- The parts of the fields, segments and groups of the code.
use Rattle.std.specs.Prelude.{List, map}
use Rattle.std.specs.Global.{Vec}
use Rattle.d0_segments.specs.declared.field.Field.{Field}
use Rattle.d0_segments.specs.declared.segment.Segment.{Segment}
use Rattle.d0_segments.specs.Parts.{FieldParts, SegmentParts}

-- a field without its place in memory
abbrev pub field_parts : Field → FieldParts
field_parts f = record { id = f.id; value = f.value.now }

-- a segment without its place in memory
abbrev pub segment_parts : Segment → SegmentParts
segment_parts s = record { id = s.id; fields = map field_parts s.fields.items }

-- the segments of a list
abbrev pub segments_parts : List Segment → List SegmentParts
segments_parts ss = map segment_parts ss

-- the groups of a list
abbrev pub groups_parts : List (Vec Segment) → List (List SegmentParts)
groups_parts gs = map (λ (g : Vec Segment). segments_parts g.items) gs
