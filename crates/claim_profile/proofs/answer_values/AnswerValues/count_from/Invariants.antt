use Rattle.std.proofs.Common.{◌≡◌, length}
use Rattle.d0_segments.specs.Pieces.{shared_of}
use Rattle.claim_profile.specs.AnswerTally.{answer_seen, answer_counted}
use Rattle.claim_profile.proofs.answer_values.AnswerValues.count_from.Given as goal

-- what is counted, and then what is left, is all
abbrev pub invariant-loop-segment : goal.invariant-loop-segment
invariant-loop-segment l = answer_counted (answer_seen l.self) (shared_of l.rest.bytes.now) ≡ answer_counted (answer_seen l.fn.self) (shared_of l.fn.from.bytes.now)

abbrev pub decreases-loop-segment : goal.decreases-loop-segment
decreases-loop-segment l = length l.rest.bytes.now
