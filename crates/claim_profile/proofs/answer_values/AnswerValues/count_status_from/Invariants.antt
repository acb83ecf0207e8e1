use Rattle.std.proofs.Common.{◌≡◌, ◌≤◌, [], length}
use Rattle.d0_segments.specs.Pieces.{shared_of}
use Rattle.d0_segments.specs.Inside.{fields_left}
use Rattle.claim_profile.specs.AnswerTally.{answer_seen, answer_fields_counted}
use Rattle.claim_profile.proofs.answer_values.AnswerValues.count_status_from.Given as goal

-- what is counted, and then what is left, is all
abbrev pub invariant-loop-field : goal.invariant-loop-field
invariant-loop-field l = record {
  values : answer_fields_counted (answer_seen l.self) (fields_left l.rest.bytes.now) [] [] ≡ answer_fields_counted (answer_seen l.fn.self) (fields_left l.fn.inside.bytes.now) [] [];
  segments : shared_of l.fn.inside.bytes.now ≡ shared_of l.rest.bytes.now;
  shorter : length l.rest.bytes.now ≤ length l.fn.inside.bytes.now;
}

abbrev pub decreases-loop-field : goal.decreases-loop-field
decreases-loop-field l = length l.rest.bytes.now
