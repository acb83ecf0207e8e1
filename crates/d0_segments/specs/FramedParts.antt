-- The parts of framed bytes of the code.
use Rattle.std.specs.Prelude.{ℕ, List, [], slice_index_or}
use Rattle.d0_segments.specs.declared.framed.Framed.{Framed}
use Rattle.d0_segments.specs.Parts.{SegmentParts, TransmissionParts}
use Rattle.d0_segments.specs.Pieces.{shared_of, groups_of}

-- framed bytes without their places in memory
abbrev pub framed_parts : {H : Type 0} {header : _} → Framed H header → TransmissionParts H
framed_parts f = record { header = f.header; shared = shared_of f.body.bytes.now; groups = groups_of f.body.bytes.now }

-- the segments in front of all groups, and those of the group at a place
abbrev pub shared_in : {H : Type 0} {header : _} → Framed H header → List SegmentParts
shared_in f = shared_of f.body.bytes.now

abbrev pub group_in : {H : Type 0} {header : _} → Framed H header → ℕ → List SegmentParts
group_in f place = slice_index_or (groups_of f.body.bytes.now) place []
