use Rattle.std.proofs.Common.{◌≡◌, length}
use Rattle.d0_segments.specs.Pieces.{shared_of}
use Rattle.carried_fields.specs.Merging.{has_segment}
use Rattle.carried_fields.proofs.segments.has_segment.Given as goal

-- the segments that are left decide
abbrev pub invariant-loop-segment : goal.invariant-loop-segment
invariant-loop-segment l = has_segment (shared_of l.rest.bytes.now) l.id ≡ has_segment (shared_of l.fn.group.bytes.now) l.id

abbrev pub decreases-loop-segment : goal.decreases-loop-segment
decreases-loop-segment l = length l.rest.bytes.now
