use Rattle.std.proofs.Common.{◌≡◌, ◌≤◌, length}
use Rattle.d0_segments.specs.Pieces.{shared_of}
use Rattle.d0_segments.specs.Inside.{fields_left}
use Rattle.claim_profile.specs.Fields.{values}
use Rattle.claim_profile.specs.Tally.{tallied}
use Rattle.message_parts.specs.Found.{found_seen, reading}
use Rattle.message_parts.proofs.found.Found.count_fields.Given as goal

-- what is counted, and then what is left, is all
abbrev pub invariant-loop-field : goal.invariant-loop-field
invariant-loop-field l = record {
  values : tallied (found_seen l.found) (values (reading l.sought.is_text) l.sought.field (fields_left l.rest.bytes.now))
      ≡ tallied (found_seen l.fn.self) (values (reading l.sought.is_text) l.sought.field (fields_left l.fn.inside.bytes.now));
  segments : shared_of l.fn.inside.bytes.now ≡ shared_of l.rest.bytes.now;
  shorter : length l.rest.bytes.now ≤ length l.fn.inside.bytes.now;
}

abbrev pub decreases-loop-field : goal.decreases-loop-field
decreases-loop-field l = length l.rest.bytes.now
