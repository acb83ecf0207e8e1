use Rattle.std.proofs.Common.{◌≡◌, length}
use Rattle.d0_segments.specs.Pieces.{shared_of}
use Rattle.claim_profile.specs.Fields.{values, fields_of}
use Rattle.claim_profile.specs.Tally.{Absent, tallied}
use Rattle.message_parts.specs.Found.{found_seen, reading}
use Rattle.message_parts.proofs.found.Found.of.Given as goal

-- what is counted, and then what is left, is all
abbrev pub invariant-loop-segment : goal.invariant-loop-segment
invariant-loop-segment l = tallied (found_seen l.found) (values (reading l.sought.is_text) l.sought.field (fields_of l.sought.segment (shared_of l.rest.bytes.now)))
    ≡ tallied Absent (values (reading l.sought.is_text) l.sought.field (fields_of l.sought.segment (shared_of l.fn.from.bytes.now)))

abbrev pub decreases-loop-segment : goal.decreases-loop-segment
decreases-loop-segment l = length l.rest.bytes.now
